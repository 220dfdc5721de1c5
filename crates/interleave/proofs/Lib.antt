-- Laws of this crate's definitions, for its own proofs and its callers'.
pub mod Scramblers
pub mod Steps
pub mod Refused
pub mod RoundTrip

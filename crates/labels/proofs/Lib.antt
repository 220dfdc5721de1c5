-- Laws of this crate's definitions, for its own proofs and its callers'.
pub mod Kept
pub mod Refused

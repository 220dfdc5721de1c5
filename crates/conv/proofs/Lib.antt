-- Laws of this crate's definitions, for its own proofs and its callers'.
pub mod Linear
pub mod Closed
pub mod Slots
pub mod Refused
pub mod Bits

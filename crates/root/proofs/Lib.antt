-- Laws of this crate's definitions, for its own proofs and its callers'.
pub mod Turns
pub mod Ways
pub mod Sound
pub mod Nearest
pub mod Only

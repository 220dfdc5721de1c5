-- Laws of this crate's definitions, for its own proofs and its callers'.
pub mod Folded
pub mod Same
pub mod Sums
pub mod Erasure
pub mod Bounds

-- Laws of this crate's definitions, for its own proofs and its callers'.
pub mod Sums
pub mod Same
pub mod Refused
pub mod FewBlocks
pub mod Bounded

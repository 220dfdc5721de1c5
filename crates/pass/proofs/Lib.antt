-- Laws between areas and the definitions of crate trellis, for this crate's own proofs and the search's.
pub mod Bits
pub mod Steps
pub mod Turns

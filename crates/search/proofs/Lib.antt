-- Laws between areas and the definitions of crate trellis, for this crate's own proofs and the header read's.
pub mod Passes
mod Rounds

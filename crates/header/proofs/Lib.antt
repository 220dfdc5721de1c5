-- Laws for this crate's own proofs, and of its refusals.
mod Laid
mod Lengths
pub mod Refused

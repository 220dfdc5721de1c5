-- Laws of this crate's definitions.
pub mod Answer
pub mod Erased
pub mod Bounded
pub mod Blanked
pub mod FullBand
pub mod Refused

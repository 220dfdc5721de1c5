-- What the proofs of several functions use: decisions in words (crate forward reads them too), a butterfly's registers, two blocks.
pub mod Bits
mod Butterfly
mod Halves

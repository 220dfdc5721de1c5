-- What the contracts of this crate say: what the areas hold, and a block of 32 states.
pub mod Blocks

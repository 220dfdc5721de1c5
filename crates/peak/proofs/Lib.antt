-- The law of the greatest number, which every proof of this crate cites.
pub mod Greatest

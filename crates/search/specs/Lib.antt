-- What the contracts of this crate say: what is lent, and what a pass and the search found, as the code holds it.
pub mod Lent
pub mod Passed
pub mod Found

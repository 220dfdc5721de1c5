-- Laws of this crate's definitions.
pub mod Rising
pub mod Listing
pub mod Places
pub mod Cut
pub mod Turn
pub mod Answers
pub mod Series
pub mod Yard
pub mod Changed
pub mod Past
pub mod Refused

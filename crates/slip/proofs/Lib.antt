-- Laws of this crate's definitions.
pub mod Strings
pub mod Numbers
pub mod Slips
pub mod Older
pub mod Entries
pub mod Answers
pub mod Refused

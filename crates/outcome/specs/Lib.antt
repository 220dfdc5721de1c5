-- What the promises of this crate cite.
pub mod Outcome
pub mod Numbers

-- What the promises of this crate cite.
pub mod Numbers
pub mod Head
pub mod Verdict

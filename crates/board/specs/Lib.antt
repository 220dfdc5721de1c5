-- What a reader must believe of this crate: document 02, #105, #107 and #110.
pub mod Places
pub mod Rules
pub mod Changed
pub mod Putting
pub mod Series

-- What a reader must believe of this crate: document 02, #103 and #107.
pub mod Spelling
pub mod Lawful
pub mod Slips

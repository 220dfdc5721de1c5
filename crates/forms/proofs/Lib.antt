-- Laws of this crate's definitions.
pub mod Ways
pub mod Forms

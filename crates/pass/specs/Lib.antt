-- What the contracts of this crate say: areas as tables.
pub mod Areas

-- What a reader must believe of this crate. A label is defined in crate conv.
pub mod Labels

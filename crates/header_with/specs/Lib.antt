-- What a reader must believe of this crate. The header read is defined in crate header, the table of labels in crate labels.
pub mod With

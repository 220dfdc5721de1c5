-- What a reader must believe of this crate. A metric is defined in crate trellis.
pub mod Rows

-- What a reader must believe of this crate. The search and demand 3 are defined in crate trellis.
pub mod Read

-- What a reader must believe of this crate.
pub mod Lists
pub mod Face

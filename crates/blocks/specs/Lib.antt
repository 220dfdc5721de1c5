-- What a reader must believe of this crate, in document 01's order.
pub mod Doubles
pub mod Blocks
pub mod Lists
pub mod Inside

-- What a reader must believe of this crate, in document 01's order.
pub mod Fit
pub mod Lists
pub mod Inside

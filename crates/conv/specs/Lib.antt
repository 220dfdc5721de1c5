-- What a reader must believe of this crate, in document 01's order.
pub mod Encoder
pub mod Label
pub mod Sent

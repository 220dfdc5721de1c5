-- What a reader must believe of this crate, in document 01's order. `Inside` is only for contracts of inside functions.
pub mod Entry
pub mod Series
pub mod Inside

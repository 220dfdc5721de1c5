-- What a reader must believe of this crate: `Call`. `Inside` is only for contracts of inside functions.
pub mod Call
pub mod Inside

-- What a reader must believe of this crate: `Burst`. `Inside` is only for contracts of inside functions.
pub mod Burst
pub mod Inside

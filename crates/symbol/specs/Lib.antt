-- What a reader must believe of this crate: `Symbol`. `Sums` is only for contracts of inside functions.
pub mod Symbol
pub mod Sums

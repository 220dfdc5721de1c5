-- What the contracts of this crate say: start states.
pub mod Follow

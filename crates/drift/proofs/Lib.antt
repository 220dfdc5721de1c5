-- Laws of this crate's definitions, for its own proofs and its callers'.
pub mod Called
pub mod Unread
pub mod Moves
pub mod Heard
pub mod Series

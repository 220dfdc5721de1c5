-- Laws of this crate's definitions, for its own proofs and its callers'.
pub mod Gathering
pub mod Same
pub mod Lists

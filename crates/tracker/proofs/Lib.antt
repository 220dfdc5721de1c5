-- Laws of this crate's definitions, for its own proofs and its callers'.
pub mod Further
pub mod Shifts
pub mod Signs
pub mod Accepted
pub mod Answers
pub mod Refused

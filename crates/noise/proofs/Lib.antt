-- Laws of this crate's definitions: what is known of an accepted call, that its factors are finite and at least 1, that of
-- equal medians any will do; and, for its code, the rows by number and the factors of a row.
pub mod Accepted
pub mod Least
pub mod Either
pub mod Shown
pub mod Bins
pub mod Answer
pub mod Refused

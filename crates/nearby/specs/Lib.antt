-- What a reader must believe of this crate: a sum over values some of which are missing. `Inside` is how the code holds 25 rows.
pub mod Sum
pub mod Inside

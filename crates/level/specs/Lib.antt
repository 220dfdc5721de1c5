-- What a reader must believe of this crate: a row and its missing bins, ranks by counting, the row's level. `Inside` is
-- how the code holds a row.
pub mod Row
pub mod Rank
pub mod Level
pub mod Inside

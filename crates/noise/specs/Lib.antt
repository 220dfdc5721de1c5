-- What a reader must believe of this crate: the factors, the entry with its refusals, and what is claimed of every row. `Inside`
-- is what is lent to the work inside.
pub mod Local
pub mod Entry
pub mod Claims
pub mod Inside

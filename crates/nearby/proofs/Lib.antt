-- The laws of this crate's definitions, and of how the code holds 25 rows.
pub mod Fill
pub mod Rows

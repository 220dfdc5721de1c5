-- Document 01's edge list.
pub mod Stars

-- Laws of this crate's definitions: a line's parts, and the lines that document 02 names.
pub mod Parts
pub mod Named

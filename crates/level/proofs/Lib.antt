-- Laws of this crate's definitions, for its own proofs and its callers'; `Turns` and `Fences` are for its loops.
pub mod Counting
pub mod Found
pub mod Five
pub mod Tone
pub mod Turns
pub mod Fences

-- What the contracts of this crate say: the best candidate as the code holds it, and the candidates of a pass.
pub mod Best
pub mod Scan

-- What the contracts of this crate say: the candidates of a pass, and the best one as the code holds it.
pub mod Scan
pub mod Best

-- Laws for this crate's own proofs.
mod Lists

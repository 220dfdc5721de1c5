-- What a reader must believe of this crate: what both halves share and the receiving halves, the sending halves, and
-- what a sent message is read as.
pub mod Interleave
pub mod Sending
pub mod RoundTrip

-- What a reader must believe of this crate, in document 01's order; the claim itself stands in Demand.
pub mod Scale
pub mod Trellis
pub mod Search
pub mod Answer
pub mod Numbers
pub mod Terms
pub mod Demand

-- Laws of a metric.
pub mod Terms

-- Laws of this crate's definitions, for its own proofs and its callers'. A pass from any start scores: Best. What a search hands out: Handed, Ceiling.
-- The simulation of one search by another: Alike, and from terms on: Metric. f32 for the whole numbers: Exact. What an outcome says: Outcomes.
-- Demand 3: Demand, Sent. All accepted terms: Finite, AnyTerms, Answered, Graded, Rounding, Apart, NearCeiling, NearExact, Scaled. That no premise
-- is empty: Runs, Guards, Clean.
pub mod Paths
pub mod Best
pub mod Handed
pub mod Integers
pub mod Ceiling
pub mod Alike
pub mod Metric
pub mod Exact
pub mod Outcomes
pub mod Demand
pub mod Sent
pub mod Finite
pub mod AnyTerms
pub mod Answered
pub mod Graded
pub mod Rounding
pub mod Apart
pub mod NearCeiling
pub mod NearExact
pub mod Scaled
pub mod Runs
pub mod Every
pub mod Guards
pub mod Silent
pub mod Clean

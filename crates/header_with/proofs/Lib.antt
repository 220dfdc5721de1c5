-- What follows from the second entry's definition: both ways of reading are one, and its refusals.
pub mod BothWays
pub mod Refused

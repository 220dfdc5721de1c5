pub mod Whole
pub mod Within
pub mod Size
pub mod Units

pub mod Halving
pub mod Shifting
pub mod ByHalves
pub mod Checks
pub mod Gathering

pub mod Runs
pub mod Moments
pub mod Gathered

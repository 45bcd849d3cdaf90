pub mod Knowing
pub mod Refusals

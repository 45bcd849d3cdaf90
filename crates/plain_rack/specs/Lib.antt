pub mod Plain
pub mod Ranges
pub mod Shape
pub mod Zeros

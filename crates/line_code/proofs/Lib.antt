pub mod Words
pub mod Running
pub mod Parts
pub mod Weighing
pub mod Halfway
pub mod Filled
pub mod BitByBit
pub mod Exponents

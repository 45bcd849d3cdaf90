pub mod Bits
pub mod Span
pub mod Step
pub mod Fixed
pub mod Answers
pub mod Towers

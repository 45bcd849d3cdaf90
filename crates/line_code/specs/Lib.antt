pub mod Answers
pub mod Sums
pub mod Sets
pub mod ByHalves
pub mod Padded
pub mod Prepared
pub mod Worked

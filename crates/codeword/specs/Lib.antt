pub mod Sums
pub mod Codeword

pub mod Ring
pub mod Determinant

pub mod Laws
pub mod Solve
pub mod Determinants

pub mod Minors
pub mod Points
pub mod Nonzero
pub mod Cramer
pub mod Chosen
pub mod Syndromes
pub mod Independent
pub mod Theorem

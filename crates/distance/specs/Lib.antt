pub mod Column
pub mod Theorems

pub mod Formulas
pub mod Laws
pub mod Extend
pub mod Piles

pub mod Tower
pub mod Product
pub mod Piles
pub mod Worked

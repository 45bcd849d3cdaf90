pub mod Highest
mod Kept
mod Sheet
mod Sofar
pub mod Tally

pub mod Parting
mod Figures
pub mod Telling

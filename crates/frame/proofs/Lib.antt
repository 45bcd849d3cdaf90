pub mod Fronts
pub mod Laws
pub mod Numbers

pub mod Halls
pub mod Served

pub mod Short
pub mod Parts
pub mod Embed

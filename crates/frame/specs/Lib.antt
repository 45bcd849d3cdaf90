pub mod Format
pub mod Kinds
pub mod Laid
pub mod Reading
pub mod Writing

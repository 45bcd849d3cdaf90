pub mod Beside
pub mod Join
pub mod Ranges

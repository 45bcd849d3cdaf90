pub mod Places
pub mod Equations
pub mod Answer

pub mod Kept
pub mod Known
pub mod Mending
pub mod Reasons
pub mod Sending

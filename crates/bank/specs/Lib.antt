pub mod Drawers
pub mod Starting

pub mod Operations
pub mod Columns
pub mod Ends

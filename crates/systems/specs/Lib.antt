pub mod Systems
pub mod Rows

pub mod Answering
pub mod Ledger
pub mod Runs
pub mod Stands

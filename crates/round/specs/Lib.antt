pub mod Replies
pub mod Rounds
pub mod Tasks

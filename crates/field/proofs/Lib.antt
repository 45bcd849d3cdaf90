pub mod Elements
pub mod Made

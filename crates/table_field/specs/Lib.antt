pub mod CarriedLaws
pub mod Carried
pub mod Equals
pub mod Table

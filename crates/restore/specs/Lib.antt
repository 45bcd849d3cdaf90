pub mod Absences
pub mod Restored
pub mod System
pub mod Worked

pub mod Lines
pub mod Present
pub mod Looking

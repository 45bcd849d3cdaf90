pub mod Structure
pub mod Numbers
pub mod Tests
pub mod FourLaws
pub mod Four

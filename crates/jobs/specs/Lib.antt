pub mod Answers
pub mod Expected
pub mod Jobs

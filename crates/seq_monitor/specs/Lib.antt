pub mod Monitored
pub mod Answers
pub mod RunAnswers
pub mod Joins
pub mod Grown
pub mod Growth

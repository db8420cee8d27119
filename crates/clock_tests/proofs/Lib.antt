pub mod OneSection
pub mod OneLog

pub mod Prefixes
pub mod Totals
pub mod AgreeProperties
pub mod TableSteps

pub mod Conditions
pub mod Found
pub mod Standing
pub mod State
pub mod Step

pub mod Ends
pub mod Faults
pub mod Lines
pub mod Runs
pub mod Workers

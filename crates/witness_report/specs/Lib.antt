pub mod Lines
pub mod Pairs
pub mod Found
pub mod Showing

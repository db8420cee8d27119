pub mod Handles
pub mod Sections

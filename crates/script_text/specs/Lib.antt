pub mod Faults
pub mod Numbers
pub mod Forms
pub mod Lines
pub mod Scripts
pub mod Readings
pub mod Marks

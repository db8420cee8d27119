pub mod Passes
pub mod Views
pub mod Rule
pub mod Kinds
pub mod Keepers
pub mod Seats
pub mod Names

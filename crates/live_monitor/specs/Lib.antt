pub mod Calls
pub mod Rules
pub mod Books
pub mod ClosedLog
pub mod Tries
pub mod Races

pub mod Closed
pub mod NameLists
pub mod Places
pub mod Unnamed

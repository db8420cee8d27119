pub mod OneLog
pub mod Joined
pub mod Laws

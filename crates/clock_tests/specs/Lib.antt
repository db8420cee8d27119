pub mod OneLog

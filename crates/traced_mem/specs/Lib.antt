pub mod Meaning
pub mod Refusals
pub mod After
pub mod Tables
pub mod Room
pub mod Standing
pub mod Held

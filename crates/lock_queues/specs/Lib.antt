pub mod Sections
pub mod Slots
pub mod Queue
pub mod Queues
pub mod Searched
pub mod Standing
pub mod Laws

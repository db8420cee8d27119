pub mod PlaceInProperties
pub mod SlotsProperties
pub mod LatestCountedProperties
pub mod EntriesProperties
pub mod IsKeptProperties
pub mod SectionsOfProperties
pub mod QueueAtProperties
pub mod AreKeptProperties
pub mod SearchedProperties
pub mod SameMeaningProperties
pub mod OptionProperties
mod AreSectionsProperties
mod StandsForProperties
mod LastBelowLaws

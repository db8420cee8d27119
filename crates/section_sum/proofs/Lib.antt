mod ListProperties
mod CellProperties
mod CountToProperties
mod CellsProperties
mod IsKeptProperties
mod CloseLaws
mod EntriesProperties
mod LocksProperties
mod LockSumsProperties
mod SourcesOfProperties
mod ClosedAccesses
mod StandsForProperties
pub mod PairedSections
mod MakeRoomLaws

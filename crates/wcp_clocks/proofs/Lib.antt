mod AccessSteps
mod ReleaseAtProperties
pub mod FitsProperties
mod EffectWords
pub mod GrownForProperties
pub mod HeldLocks
mod BelowIsLatest
mod HeldListsProperties
mod AreOrderedProperties
mod OtherSteps
mod Rows
mod RowsGrown
mod RowsKept
pub mod Memory
mod MetNumbers
mod MetReleases
pub mod StandsForProperties
pub mod IsStepProperties
mod Swaps
mod TakeLaws
mod PartsWithin
pub mod WithinLimits
pub mod WorkLaws

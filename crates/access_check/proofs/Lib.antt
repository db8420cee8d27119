pub mod StandsForProperties
pub mod PutProperties
pub mod AreNarrowProperties
pub mod IsReadyForProperties
pub mod LatestRacingProperties
pub mod VerdictLaws
pub mod VariableStandsProperties
pub mod NoteLaws

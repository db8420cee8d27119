pub mod LogOfProperties
mod RetryLaws
mod RulesProperties
mod IsAddedProperties
mod MayComeProperties

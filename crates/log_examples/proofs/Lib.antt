-- small logs
pub mod RelationTests
pub mod ExampleFacts
pub mod RuleAExamples
pub mod RuleBExamples
pub mod SectionExamples
pub mod RunExamples
-- the rule without re-entrance
pub mod PlainProperties
pub mod PlainWcpProperties

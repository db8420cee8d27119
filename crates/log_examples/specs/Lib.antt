-- small logs
pub mod Examples
-- the rule without re-entrance, and its laws
pub mod Plain
pub mod PlainWcp
pub mod PlainLaws

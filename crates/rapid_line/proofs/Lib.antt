pub mod CutProperties
pub mod ReadingProperties
pub mod SpellingProperties
pub mod HasFieldsProperties
pub mod IsFirstCauseProperties
pub mod TellProperties
pub mod IsBarredProperties
pub mod LinesProperties

pub mod Indices
pub mod Witness
pub mod Links
pub mod Walks
pub mod Standing
pub mod Searched
pub mod EndLaws

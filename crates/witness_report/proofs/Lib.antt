pub mod PairsProperties
pub mod AreRowsProperties
pub mod ShowingProperties

pub mod Without
pub mod HbLaws
pub mod Repeats
pub mod AccessLaws
pub mod Exchanges

pub mod Digits
pub mod NameBytes
pub mod Locations
pub mod ReadsProperties
pub mod MarksProperties
pub mod AreLegalProperties
pub mod IsFaultProperties
pub mod IsScriptProperties

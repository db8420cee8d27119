pub mod Cut
pub mod Grammar
pub mod Causes
pub mod Reading
pub mod Marks
pub mod Lines

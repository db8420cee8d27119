pub mod Words
pub mod Races
pub mod Reports
pub mod Findings
pub mod Replayed
pub mod Replaying
pub mod Judging
pub mod Checked

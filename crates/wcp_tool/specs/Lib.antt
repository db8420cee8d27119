pub mod Endings
pub mod Running
pub mod ScriptRuns

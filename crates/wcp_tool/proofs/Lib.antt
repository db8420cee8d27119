pub mod RunNames
pub mod ScriptReads
pub mod TraceReads

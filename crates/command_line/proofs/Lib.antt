pub mod CommandSettings
pub mod CommandFaults

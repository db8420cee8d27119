pub mod LastAccesses
pub mod VariableAccesses
pub mod Tables
pub mod Standing

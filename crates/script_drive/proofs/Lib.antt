mod ReachProperties
mod IsToldProperties
mod ScriptFaults
mod IsRunOfProperties
mod Joins
mod Ends
mod HasDoneProperties
mod LinkLines

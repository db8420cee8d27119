-- The definitions of the race that is reported, and the laws over them. "The paper" is Kini, Mathur and
-- Viswanathan, "Dynamic Race Prediction in Linear Time" (PLDI 2017); what is not said to be the paper's is
-- this project's own.

-- logs
pub mod Log
pub mod Refusal
pub mod Orderly
-- the relations
pub mod Order
pub mod Wcp
pub mod Recurrence
-- verdicts and runs
pub mod Verdict
pub mod Acts
pub mod Steps
-- clocks
pub mod Count
pub mod Effect
pub mod Rows
pub mod Closed
pub mod Newest
-- what contracts see of limits, of a log and of lists that grow
pub mod Bounds
pub mod Recorded
pub mod Tables
pub mod Kept
pub mod Packing
pub mod RowList
-- the laws
pub mod OrderLaws
pub mod StrictLaws
pub mod LogLaws
pub mod RunLaws
pub mod CountLaws

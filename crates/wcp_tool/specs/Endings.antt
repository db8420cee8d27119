-- How the program ends.
use Rattle.std.specs.Prelude.{◌≡◌, ◌≢◌, ◌⊎◌, ℕ, Bool, Result, Ok, Err, true, false, cond, nat_eq}
use Rattle.event_core.specs.declared.replies.Refusal.{Refusal}
use Rattle.event_core.specs.declared.replies.Refusal.TheVariants as refusals
use Rattle.rapid_text.specs.declared.causes.Cause.{Cause}
use Rattle.rapid_text.specs.declared.causes.Cause.TheVariants as causes
use Rattle.trace_report.specs.declared.counts.Counts.{Counts}
use Rattle.wcp_tool.specs.declared.endings.Ending.{Ending}
use Rattle.trace_report.specs.declared.faults.ReplayFault.{ReplayFault}
use Rattle.trace_report.specs.declared.faults.ReplayFault.TheVariants as faults
use Rattle.trace_report.specs.declared.summary.Summary.{Summary}
use Rattle.trace_report.specs.Judging.{is_read}
use Rattle.witness_report.specs.declared.shown.Shown.{Shown}
use Rattle.witness_report.specs.declared.shown.Shown.TheVariants as shown
use Rattle.wcp_tool.specs.declared.endings.Ending.TheVariants.{Done, Races, WrongUsage, Refused, ReadFault}
use Rattle.wcp_tool.specs.declared.endings.Ending.TheVariants.{WriteFault, OutOfMemory, BrokenScript}

-- the exit status
abbrev pub status_of : Ending → ℕ
status_of Done = 0
status_of Races = 1
status_of WrongUsage = 2
status_of Refused = 3
status_of ReadFault = 4
status_of WriteFault = 4
status_of OutOfMemory = 5
status_of BrokenScript = 6

-- the writer failed
abbrev pub is_write_fault : Ending → Bool
is_write_fault WriteFault = true
is_write_fault _ = false

-- a command that was asked for ended so: nothing was written where a read failed or memory ran out, and the
-- writer failed where it says so, and nowhere else
pub record HasEnded (unwritten : Type 0) (write_failed : Bool) (ending : Ending) : Type 0 where
  pub asked_for : ending ≢ WrongUsage
  pub quiet : (ending ≡ ReadFault) ⊎ (ending ≡ OutOfMemory) → unwritten
  pub fails : write_failed ≡ is_write_fault ending

abbrev pub cause_ending : Cause → Ending
cause_ending causes.Read = ReadFault
cause_ending causes.OutOfMemory = OutOfMemory
cause_ending _ = Refused

abbrev pub refusal_ending : Refusal → Ending
refusal_ending refusals.OutOfMemory = OutOfMemory
refusal_ending _ = Refused

-- the text was not read to its end
abbrev pub is_unread : ReplayFault → Bool
is_unread (faults.Text f) = is_read f.cause
is_unread _ = false

-- how a check or a replay with this fault ends
abbrev pub fault_ending : ReplayFault → Ending
fault_ending (faults.Text f) = cause_ending f.cause
fault_ending (faults.Refused line r) = refusal_ending r
fault_ending faults.Write = WriteFault

-- how a check with this answer ends
abbrev pub check_ending : Result Counts ReplayFault → Ending
check_ending (Ok counts) = Done
check_ending (Err f) = fault_ending f

-- how a run with this report ends
abbrev pub summary_ending : Summary → Ending
summary_ending summary = cond (nat_eq summary.races 0) Done Races

-- how a replay with this answer ends
abbrev pub replay_ending : Result Summary ReplayFault → Ending
replay_ending (Ok summary) = summary_ending summary
replay_ending (Err f) = fault_ending f

-- how a search for witnesses with this answer ends
abbrev pub witness_ending : Result Shown ReplayFault → Ending
witness_ending (Ok shown.Witness) = Done
witness_ending (Ok shown.NoWitness) = Races
witness_ending (Ok shown.NoRace) = WrongUsage
witness_ending (Ok (shown.Pairs summary)) = summary_ending summary
witness_ending (Ok shown.OutOfMemory) = OutOfMemory
witness_ending (Err f) = fault_ending f

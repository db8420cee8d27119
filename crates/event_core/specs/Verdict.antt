-- Verdicts: what an access is answered. And the outcome of a call, and the run of a list of calls.
--
-- A race is a pair of conflicting accesses that weak causal precedence leaves unordered, as in the paper.
-- Which of an access's races is reported, and the replies, are this project's own.
use Rattle.std.specs.Prelude.{◌≡◌, ℕ, ◌<◌, List, [], ◌∷◌, ◌++◌, Some, None, length}
use Rattle.event_core.specs.declared.events.Event.{Event}
use Rattle.event_core.specs.declared.events.Call.{Call}
use Rattle.event_core.specs.declared.bounds.Limits.{Limits}
use Rattle.event_core.specs.declared.replies.Outcome.{Outcome}
use Rattle.event_core.specs.declared.replies.Outcome.TheVariants.{Accepted, Refused}
use Rattle.event_core.specs.declared.replies.Verdict.{Verdict}
use Rattle.event_core.specs.declared.replies.Verdict.TheVariants.{Clear, Racy}
use Rattle.event_core.specs.Log.{Conflict}
use Rattle.event_core.specs.Wcp.{Below}
use Rattle.event_core.specs.Refusal.{refusal, event_of, value_of}

-- event i races with the later event j: they conflict, and i is not ordered before j
pub record Races (log : List Event) (i j : ℕ) : Type 0 where
  pub before : i < j
  pub conflict : Conflict log i j
  pub unordered : Below log i j → ⊥

-- the verdict on event j: the greatest index below j that races with it, or that there is none
abbrev pub IsVerdict : List Event → ℕ → Verdict → Type 0
IsVerdict log j Clear = (i : ℕ) → Races log i j → ⊥
IsVerdict log j (Racy i) = Races log i j × ((k : ℕ) → i < k → Races log k j → ⊥)

-- the outcome of a call after the log: its first refusal; or, if it has none, the index of its event, the
-- event's value, and the verdict on it
abbrev pub IsOutcome : Limits → List Event → Call → Outcome → Type 0
IsOutcome m log c (Refused r) = refusal m log c ≡ Some r
IsOutcome m log c (Accepted a) =
    (refusal m log c ≡ None) × (a.index ≡ length log) × (a.value ≡ value_of log c.op c.arg)
    × IsVerdict (log ++ event_of log c ∷ []) (length log) a.verdict

-- the log after the call: only an accepted call adds to it
abbrev pub log_after : List Event → Call → Outcome → List Event
log_after log c (Refused r) = log
log_after log c (Accepted a) = log ++ event_of log c ∷ []

-- the run of the calls from the log on: their outcomes one after another, and the log at the end
abbrev pub IsRun : Limits → List Event → List Call → List Outcome → List Event → Type 0
IsRun m log [] [] end = end ≡ log
IsRun m log (c ∷ cs) (o ∷ os) end = IsOutcome m log c o × IsRun m (log_after log c o) cs os end
IsRun m log _ _ end = ⊥

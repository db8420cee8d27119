-- The laws of verdicts, outcomes, runs and swaps.
use Rattle.std.specs.Prelude.{[], ◌∷◌, ◌≡◌, ℕ, ◌+◌, ◌<◌, ◌≤◌, ◌↔◌, ◌⊎◌, List, ◌++◌, length, Some, None}
use Rattle.event_core.specs.declared.ids.ThreadId.{ThreadId}
use Rattle.event_core.specs.declared.ids.VarId.{VarId}
use Rattle.event_core.specs.declared.ids.SiteId.{SiteId}
use Rattle.event_core.specs.declared.events.Event.{Event}
use Rattle.event_core.specs.declared.events.Call.{Call}
use Rattle.event_core.specs.declared.events.Act.{Act}
use Rattle.event_core.specs.declared.bounds.Limits.{Limits}
use Rattle.event_core.specs.declared.replies.Verdict.{Verdict}
use Rattle.event_core.specs.declared.replies.Outcome.{Outcome}
use Rattle.event_core.specs.declared.replies.Done.{Done}
use Rattle.event_core.specs.declared.replies.Refusal.{Refusal}
use Rattle.event_core.specs.declared.replies.Refusal.TheVariants.{LogFull}
use Rattle.event_core.specs.Refusal.{refusal, held_depths, WellFormed}
use Rattle.event_core.specs.Verdict.{IsVerdict, IsOutcome, IsRun}
use Rattle.event_core.specs.Steps.{MayFollow}
use Rattle.event_core.specs.Acts.{swap_refusal, swap_load, swap_store, load_call, log_after_swap, IsDone}
use Rattle.event_core.specs.Acts.{IsActRun}

-- an event has one verdict
abbrev pub VerdictIsUnique : Type 0
VerdictIsUnique = (log : List Event) (j : ℕ) (v w : Verdict) → IsVerdict log j v → IsVerdict log j w → v ≡ w

-- a verdict is the same in every longer log
abbrev pub VerdictsStay : Type 0
VerdictsStay =
    (log more : List Event) (j : ℕ) (v : Verdict) → j < length log
    → IsVerdict log j v ↔ IsVerdict (log ++ more) j v

-- a call has one outcome
abbrev pub OutcomeIsUnique : Type 0
OutcomeIsUnique =
    (m : Limits) (log : List Event) (c : Call) (a b : Outcome)
    → IsOutcome m log c a → IsOutcome m log c b → a ≡ b

-- a list of calls has one run: one list of outcomes and one log at its end
abbrev pub RunIsUnique : Type 0
RunIsUnique =
    (m : Limits) (log : List Event) (cs : List Call) (os ps : List Outcome) (x y : List Event)
    → IsRun m log cs os x → IsRun m log cs ps y → (os ≡ ps) × (x ≡ y)

-- the log at the end of a run is well formed
abbrev pub RunsKeepLogsWellFormed : Type 0
RunsKeepLogsWellFormed =
    (m : Limits) (log : List Event) (cs : List Call) (os : List Outcome) (end : List Event)
    → WellFormed m log → IsRun m log cs os end → WellFormed m end

-- an act has one outcome
abbrev pub ActOutcomeIsUnique : Type 0
ActOutcomeIsUnique =
    (m : Limits) (log : List Event) (a : Act) (d e : Done) → IsDone m log a d → IsDone m log a e → d ≡ e

-- a list of acts has one run
abbrev pub ActRunIsUnique : Type 0
ActRunIsUnique =
    (m : Limits) (log : List Event) (acts : List Act) (ds es : List Done) (x y : List Event)
    → IsActRun m log acts ds x → IsActRun m log acts es y → (ds ≡ es) × (x ≡ y)

-- and the log at its end is well formed
abbrev pub ActRunsKeepLogsWellFormed : Type 0
ActRunsKeepLogsWellFormed =
    (m : Limits) (log : List Event) (acts : List Act) (ds : List Done) (end : List Event)
    → WellFormed m log → IsActRun m log acts ds end → WellFormed m end

-- except for a full log, a swap is refused exactly as its load would be
abbrev pub SwapIsRefusedAsItsLoad : Type 0
SwapIsRefusedAsItsLoad =
    (m : Limits) (log : List Event) (u : ThreadId) (x : VarId) (site : SiteId) (r : Refusal)
    → (r ≡ LogFull → ⊥)
    → (swap_refusal m log u x ≡ Some r) ↔ (refusal m log (load_call u x site) ≡ Some r)

-- a swap is not refused exactly when its load would not be and there are two slots beside those that are kept
abbrev pub SwapNeedsTwoSlots : Type 0
SwapNeedsTwoSlots =
    (m : Limits) (log : List Event) (u : ThreadId) (x : VarId) (site : SiteId)
    → (swap_refusal m log u x ≡ None)
    ↔ ((refusal m log (load_call u x site) ≡ None) × (length log + held_depths m log + 2 ≤ m.events))

-- the log is full for a swap exactly when its load would not be refused otherwise and there are not two slots
abbrev pub SwapMeetsFullLog : Type 0
SwapMeetsFullLog =
    (m : Limits) (log : List Event) (u : ThreadId) (x : VarId) (site : SiteId)
    → (swap_refusal m log u x ≡ Some LogFull)
    ↔ (((refusal m log (load_call u x site) ≡ None) ⊎ (refusal m log (load_call u x site) ≡ Some LogFull))
    × (m.events < length log + held_depths m log + 2))

-- the two events of an accepted swap are legal, one after the other
abbrev pub SwapsAreLegal : Type 0
SwapsAreLegal =
    (m : Limits) (log : List Event) (u : ThreadId) (x : VarId) (site : SiteId) (arg : ℕ)
    → WellFormed m log → swap_refusal m log u x ≡ None
    → MayFollow m log (swap_load log u x site ∷ swap_store u x site arg ∷ [])

-- so the log after it is well formed
abbrev pub SwapsKeepLogsWellFormed : Type 0
SwapsKeepLogsWellFormed =
    (m : Limits) (log : List Event) (u : ThreadId) (x : VarId) (site : SiteId) (arg : ℕ)
    → WellFormed m log → swap_refusal m log u x ≡ None → WellFormed m (log_after_swap log u x site arg)

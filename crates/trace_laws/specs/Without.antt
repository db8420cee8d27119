-- A log without the accesses to some variables.
use Rattle.std.specs.Prelude.{◌≡◌, ℕ, Bool, true, false, not, List, Some, length, slice_get}
use Rattle.std.specs.List.{filter}
use Rattle.std.proofs.Math.ListN.{take}
use Rattle.event_core.specs.declared.ids.ThreadId.{ThreadId}
use Rattle.event_core.specs.declared.ids.VarId.{VarId}
use Rattle.event_core.specs.declared.events.Event.{Event}
use Rattle.event_core.specs.declared.events.Op.{Op}
use Rattle.event_core.specs.declared.events.Op.TheVariants.{Load, Store}
use Rattle.event_core.specs.declared.replies.Verdict.{Verdict}
use Rattle.event_core.specs.declared.replies.Verdict.TheVariants.{Clear, Racy}
use Rattle.event_core.specs.Log.{Does}

-- whether the operation is an access to one of the variables
abbrev pub op_accesses : (VarId → Bool) → Op → Bool
op_accesses vars (Load x) = vars x
op_accesses vars (Store x) = vars x
op_accesses vars _ = false

-- whether the event stays in a log without the accesses to the variables
abbrev pub stays : (VarId → Bool) → Event → Bool
stays vars e = not (op_accesses vars e.op)

-- event i of the log stays
pub record Stays (vars : VarId → Bool) (log : List Event) (i : ℕ) : Type 0 where
  pub event : Event
  pub at : slice_get log i ≡ Some event
  pub is : stays vars event ≡ true

-- the log without the accesses to the variables
abbrev pub without : (VarId → Bool) → List Event → List Event
without vars = filter (stays vars)

-- where event i of the log is in the log without them: so many events before it stay
abbrev pub new_index : (VarId → Bool) → List Event → ℕ → ℕ
new_index vars log i = length (without vars (take i log))

-- the same verdict, its index moved
abbrev pub new_verdict : (VarId → Bool) → List Event → Verdict → Verdict
new_verdict vars log Clear = Clear
new_verdict vars log (Racy i) = Racy (new_index vars log i)

-- the operation is an access to the variable
abbrev pub IsAccessTo : VarId → Op → Type 0
IsAccessTo x (Load y) = y ≡ x
IsAccessTo x (Store y) = y ≡ x
IsAccessTo x _ = ⊥

-- one thread alone accesses the variable
abbrev pub HasOneThread : List Event → VarId → Type 0
HasOneThread log x =
    (i j : ℕ) (u v : ThreadId) (o p : Op) → Does log i u o → Does log j v p → IsAccessTo x o → IsAccessTo x p
    → u ≡ v

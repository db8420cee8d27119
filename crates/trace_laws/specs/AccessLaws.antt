-- Which accesses a recorder may leave out.
use Rattle.std.specs.Prelude.{◌≡◌, ℕ, Bool, true, ◌↔◌, List, ◌∷◌, ◌++◌, length}
use Rattle.event_core.specs.declared.ids.ThreadId.{ThreadId}
use Rattle.event_core.specs.declared.ids.VarId.{VarId}
use Rattle.event_core.specs.declared.events.Event.{Event}
use Rattle.event_core.specs.declared.events.Op.{Op}
use Rattle.event_core.specs.declared.bounds.Limits.{Limits}
use Rattle.event_core.specs.declared.replies.Verdict.{Verdict}
use Rattle.event_core.specs.Order.{Po, Hb}
use Rattle.event_core.specs.Wcp.{Strict}
use Rattle.event_core.specs.Refusal.{WellFormed}
use Rattle.event_core.specs.Verdict.{Races, IsVerdict}
use Rattle.trace_laws.specs.Repeats.{Ordered, Repeats, RaceBetween}
use Rattle.trace_laws.specs.Without.{Stays, without, new_index, new_verdict, HasOneThread}

-- the log without the accesses to the variables says the same as the log
pub record SaysTheSame (m : Limits) (log : List Event) (vars : VarId → Bool) : Type 0 where
  -- it is well formed
  pub well_formed : WellFormed m (without vars log)
  -- the relations between the events that stay are the same
  pub order : (i j : ℕ) → Stays vars log i → Stays vars log j
      → (Po log i j ↔ Po (without vars log) (new_index vars log i) (new_index vars log j))
      × (Hb log i j ↔ Hb (without vars log) (new_index vars log i) (new_index vars log j))
      × (Strict log i j ↔ Strict (without vars log) (new_index vars log i) (new_index vars log j))
  -- all that race stay, and the races are the same
  pub racing : (i j : ℕ) → Races log i j → Stays vars log i × Stays vars log j
  pub races : (i j : ℕ) → Stays vars log i → Stays vars log j
      → Races log i j ↔ Races (without vars log) (new_index vars log i) (new_index vars log j)
  -- each verdict on an event that stays is the verdict on it there, and each verdict on it there is one here
  pub verdict : (j : ℕ) (v : Verdict) → Stays vars log j → IsVerdict log j v
      → IsVerdict (without vars log) (new_index vars log j) (new_verdict vars log v)
  pub verdict_here : (j : ℕ) (w : Verdict) → Stays vars log j
      → IsVerdict (without vars log) (new_index vars log j) w
      → (v : Verdict) × (new_verdict vars log v ≡ w) × IsVerdict log j v

-- a log without the accesses to variables each of which one thread alone accesses says the same as the log
abbrev pub PrivateAccessesChangeNothing : Type 0
PrivateAccessesChangeNothing =
    (m : Limits) (log : List Event) (vars : VarId → Bool) → WellFormed m log
    → ((x : VarId) → vars x ≡ true → HasOneThread log x) → SaysTheSame m log vars

-- the locks, forks and joins of a well-formed log are in order
abbrev pub WellFormedIsOrdered : Type 0
WellFormedIsOrdered = (m : Limits) (log : List Event) → WellFormed m log → Ordered log

-- without an access that its thread made before, and since then made accesses alone, they stay in order, and
-- the same pairs of threads race by the same operations
abbrev pub RepeatedAccessesChangeNoPair : Type 0
RepeatedAccessesChangeNoPair =
    (before after : List Event) (e : Event) (p : ℕ) → Ordered (before ++ e ∷ after)
    → Repeats (before ++ e ∷ after) p (length before)
    → Ordered (before ++ after)
    × ((u v : ThreadId) (o q : Op)
    → RaceBetween (before ++ e ∷ after) u o v q ↔ RaceBetween (before ++ after) u o v q)

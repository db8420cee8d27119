-- Accesses that a thread made before.
use Rattle.std.specs.Prelude.{◌≡◌, ℕ, ◌<◌, Bool, true, false, List, ◌⊎◌}
use Rattle.event_core.specs.declared.ids.ThreadId.{ThreadId}
use Rattle.event_core.specs.declared.events.Event.{Event}
use Rattle.event_core.specs.declared.events.Op.{Op}
use Rattle.event_core.specs.declared.events.Op.TheVariants.{Load, Store, Join}
use Rattle.event_core.specs.Log.{Does, Of}
use Rattle.event_core.specs.Orderly.{Orderly}
use Rattle.event_core.specs.Verdict.{Races}

-- whether the operation is an access
abbrev pub is_access : Op → Bool
is_access (Load x) = true
is_access (Store x) = true
is_access _ = false

-- the locks, forks and joins of the log are in order, whatever its values and its length
pub record Ordered (log : List Event) : Type 0 where
  pub orderly : Orderly log
  -- a thread that has been joined has no more events
  pub rest : (j k : ℕ) (u v : ThreadId) → Does log j v (Join u) → Of log k u → k < j

-- event k is an access that its thread made before, at p, and the thread has made accesses alone since
pub record Repeats (log : List Event) (p k : ℕ) : Type 0 where
  pub thread : ThreadId
  pub op : Op
  pub access : is_access op ≡ true
  pub first : Does log p thread op
  pub again : Does log k thread op
  pub before : p < k
  pub quiet : (n : ℕ) (other : Op) → p < n → n < k → Does log n thread other → is_access other ≡ true

-- two events race, one by u that does o, and one by v that does q
pub record RaceBetween (log : List Event) (u : ThreadId) (o : Op) (v : ThreadId) (q : Op) : Type 0 where
  pub first : ℕ
  pub second : ℕ
  pub races : Races log first second
  pub are : (Does log first u o × Does log second v q) ⊎ (Does log first v q × Does log second u o)

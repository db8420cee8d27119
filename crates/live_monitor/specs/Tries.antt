-- How often something is tried.
use Rattle.std.specs.Prelude.{ℕ, ◌+◌, ◌≡◌, ◌≤◌, Result, IfErr, min}
use Rattle.event_core.specs.declared.ids.ThreadId.{ThreadId}
use Rattle.event_core.specs.declared.replies.Refusal.{Refusal}
use Rattle.event_core.specs.declared.replies.Refusal.TheVariants.{Held}

-- how many tries there may be, and how many of them were made
pub record Tried : Type 0 where
  pub most : ℕ
  pub made : ℕ

-- one try more was made, where one was left
abbrev pub one_more : Tried → Tried
one_more t = record t { made = min (t.made + 1) t.most }

-- all were made
abbrev pub AreUsedUp : Tried → Type 0
AreUsedUp t = t.made ≡ t.most

-- The tries of an acquire with this answer: another thread's hold is the answer only where all are counted,
-- and one is counted at least where one was left.
pub record CountsTries {A : Type 0} (old new : Tried) (answer : Result A Refusal) : Type 0 where
  pub used_up : (by : ThreadId) → IfErr answer (λ why. why ≡ Held by → AreUsedUp new)
  pub same_most : new.most ≡ old.most
  pub counts_up : (one_more old).made ≤ new.made

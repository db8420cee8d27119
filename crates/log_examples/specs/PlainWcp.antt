-- Happens-before, weak causal precedence and verdicts by the rule without re-entrance: each acquire opens a
-- section and each release ends one. They serve one law alone, as the rule itself does.
use Rattle.std.specs.Prelude.{ℕ, ◌<◌, ◌≤◌, List, ◌⊎◌}
use Rattle.event_core.specs.declared.ids.ThreadId.{ThreadId}
use Rattle.event_core.specs.declared.ids.LockId.{LockId}
use Rattle.event_core.specs.declared.events.Event.{Event}
use Rattle.event_core.specs.declared.replies.Verdict.{Verdict}
use Rattle.event_core.specs.declared.replies.Verdict.TheVariants.{Clear, Racy}
use Rattle.event_core.specs.declared.events.Op.TheVariants.{Acquire, Release}
use Rattle.event_core.specs.Log.{Does, Of, Conflict}
use Rattle.event_core.specs.Order.{Chain, ProgramEdge, Po}

-- an edge of program order, or a release of a lock and a later acquire of it
pub data PlainHbEdge (log : List Event) (i j : ℕ) : Type 0 where
  plain_program : ProgramEdge log i j → PlainHbEdge log i j
  plain_lock : (u v : ThreadId) (l : LockId) → i < j → Does log i u (Release l) → Does log j v (Acquire l)
      → PlainHbEdge log i j

-- a chain of these edges
abbrev pub PlainHb : List Event → ℕ → ℕ → Type 0
PlainHb log = Chain (PlainHbEdge log)

-- event i of u is inside the section on l that u's acquire a opened: a is u's latest acquire of l up to i,
-- and u did not release l strictly between
pub record PlainInside (log : List Event) (u : ThreadId) (l : LockId) (a i : ℕ) : Type 0 where
  pub opened : Does log a u (Acquire l)
  pub of : Of log i u
  pub from : a ≤ i
  pub latest : (k : ℕ) → a < k → k ≤ i → Does log k u (Acquire l) → ⊥
  pub unreleased : (k : ℕ) → a < k → k < i → Does log k u (Release l) → ⊥

-- event i is in the section on l that the release r ends
pub record PlainInSection (log : List Event) (l : LockId) (r i : ℕ) : Type 0 where
  pub thread : ThreadId
  pub acquire : ℕ
  pub inside : PlainInside log thread l acquire r
  pub closed : Does log r thread (Release l)
  pub of : Of log i thread
  pub from : acquire ≤ i
  pub to : i ≤ r

-- the premise of rule (a)
pub record PlainMeets (log : List Event) (r j : ℕ) : Type 0 where
  pub before : r < j
  pub lock : LockId
  pub thread : ThreadId
  pub acquire : ℕ
  pub inside : PlainInside log thread lock acquire j
  pub access : ℕ
  pub in_section : PlainInSection log lock r access
  pub conflict : Conflict log access j

-- i strictly precedes j, by the three rules
pub data PlainStrict (log : List Event) : ℕ → ℕ → Type 0 where
  plain_a : {r j : ℕ} → PlainMeets log r j → PlainStrict log r j
  plain_b : {r s e f : ℕ} (l : LockId) → r < s → PlainInSection log l r e → PlainInSection log l s f
      → PlainStrict log e f → PlainStrict log r s
  plain_c_left : {i g j : ℕ} → PlainHb log i g → PlainStrict log g j → PlainStrict log i j
  plain_c_right : {i g j : ℕ} → PlainStrict log i g → PlainHb log g j → PlainStrict log i j

-- i is ordered before j
abbrev pub PlainBelow : List Event → ℕ → ℕ → Type 0
PlainBelow log i j = PlainStrict log i j ⊎ Po log i j

-- event i races with the later event j: they conflict, and i is not ordered before j
pub record PlainRaces (log : List Event) (i j : ℕ) : Type 0 where
  pub before : i < j
  pub conflict : Conflict log i j
  pub unordered : PlainBelow log i j → ⊥

-- the verdict on event j: the greatest index below j that races with it, or that there is none
abbrev pub IsPlainVerdict : List Event → ℕ → Verdict → Type 0
IsPlainVerdict log j Clear = (i : ℕ) → PlainRaces log i j → ⊥
IsPlainVerdict log j (Racy i) = PlainRaces log i j × ((k : ℕ) → i < k → PlainRaces log k j → ⊥)

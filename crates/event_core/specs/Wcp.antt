-- Weak causal precedence, or WCP: the least relation closed under three rules.
--
-- The rules are those of the definition of WCP in Kini, Mathur and Viswanathan, "Dynamic Race Prediction in
-- Linear Time" (PLDI 2017), where they are (a), (b) and (c). Here sections run from outer acquires to outer
-- releases, happens-before has the edges of forks and joins, and the two releases of rule (b) may be of one
-- thread: that much is this project's own.
use Rattle.std.specs.Prelude.{ℕ, ◌<◌, List, ◌⊎◌}
use Rattle.event_core.specs.declared.ids.ThreadId.{ThreadId}
use Rattle.event_core.specs.declared.ids.LockId.{LockId}
use Rattle.event_core.specs.declared.events.Event.{Event}
use Rattle.event_core.specs.Log.{Inside, InSection, Conflict}
use Rattle.event_core.specs.Order.{Po, Hb}

-- the premise of rule (a): r ends a section with an access that conflicts with j, and j comes later, inside a
-- section on the same lock
pub record Meets (log : List Event) (r j : ℕ) : Type 0 where
  pub before : r < j
  pub lock : LockId
  pub thread : ThreadId
  pub acquire : ℕ
  pub inside : Inside log thread lock acquire j
  pub access : ℕ
  pub in_section : InSection log lock r access
  pub conflict : Conflict log access j

-- i strictly precedes j: there is a finite derivation of it by the rules
pub data Strict (log : List Event) : ℕ → ℕ → Type 0 where
  -- (a) a release strictly precedes a later access inside a section on its lock, if the two sections conflict
  -- by that access
  rule_a : {r j : ℕ} → Meets log r j → Strict log r j
  -- (b) a release strictly precedes a later release of its lock, if an event e of the first section strictly
  -- precedes an event f of the second
  rule_b : {r s e f : ℕ} (l : LockId) → r < s → InSection log l r e → InSection log l s f → Strict log e f
      → Strict log r s
  -- (c) the relation is closed under happens-before on both sides
  rule_c_left : {i g j : ℕ} → Hb log i g → Strict log g j → Strict log i j
  rule_c_right : {i g j : ℕ} → Strict log i g → Hb log g j → Strict log i j

-- R is closed under the three rules
pub record IsClosed (log : List Event) (R : ℕ → ℕ → Type 0) : Type 0 where
  pub a : (r j : ℕ) → Meets log r j → R r j
  pub b : (r s e f : ℕ) (l : LockId) → r < s → InSection log l r e → InSection log l s f → R e f → R r s
  pub left : (i g j : ℕ) → Hb log i g → R g j → R i j
  pub right : (i g j : ℕ) → R i g → Hb log g j → R i j

-- i is ordered before j: it strictly precedes j, or is at or before j in program order
abbrev pub Below : List Event → ℕ → ℕ → Type 0
Below log i j = Strict log i j ⊎ Po log i j

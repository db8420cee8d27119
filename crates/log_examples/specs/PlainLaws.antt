-- The laws on logs in which no lock is acquired again by its holder.
use Rattle.std.specs.Prelude.{ℕ, ◌↔◌, List}
use Rattle.event_core.specs.declared.ids.ThreadId.{ThreadId}
use Rattle.event_core.specs.declared.ids.LockId.{LockId}
use Rattle.event_core.specs.declared.events.Event.{Event}
use Rattle.event_core.specs.declared.events.Op.TheVariants.{Acquire, Release}
use Rattle.event_core.specs.declared.bounds.Limits.{Limits}
use Rattle.event_core.specs.declared.replies.Verdict.{Verdict}
use Rattle.event_core.specs.Log.{Does, OuterAcquire, OuterRelease}
use Rattle.event_core.specs.Order.{Hb}
use Rattle.event_core.specs.Wcp.{Strict}
use Rattle.event_core.specs.Verdict.{IsVerdict}
use Rattle.event_core.specs.Refusal.{WellFormed}
use Rattle.log_examples.specs.Plain.{PlainWellFormed}
use Rattle.log_examples.specs.PlainWcp.{PlainHb, PlainStrict, IsPlainVerdict}

-- a log that is well formed by the rule without re-entrance is well formed by the rule with it; its acquires
-- and releases are outer, and happens-before, the strict relation and the verdicts are the same by both
abbrev pub PlainLogsKeepTheirMeaning : Type 0
PlainLogsKeepTheirMeaning =
    (m : Limits) (log : List Event) → PlainWellFormed m log
    → WellFormed m log
    × ((a : ℕ) (u : ThreadId) (l : LockId) → Does log a u (Acquire l) → OuterAcquire log a u l)
    × ((r : ℕ) (u : ThreadId) (l : LockId) → Does log r u (Release l) → OuterRelease log r u l)
    × ((i j : ℕ) → PlainHb log i j ↔ Hb log i j)
    × ((i j : ℕ) → PlainStrict log i j ↔ Strict log i j)
    × ((j : ℕ) (v : Verdict) → IsPlainVerdict log j v ↔ IsVerdict log j v)

-- and such logs are exactly the well-formed ones whose acquires are all outer
abbrev pub PlainLogsHaveNoInnerAcquire : Type 0
PlainLogsHaveNoInnerAcquire =
    (m : Limits) (log : List Event)
    → PlainWellFormed m log
    ↔ (WellFormed m log
    × ((a : ℕ) (u : ThreadId) (l : LockId) → Does log a u (Acquire l) → OuterAcquire log a u l))

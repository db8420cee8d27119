-- What a run of calls or of acts adds, and where it stops for want of memory.
use Rattle.std.specs.Prelude.{ℕ, ◌≡◌, ◌<◌, List, ◌++◌, Some, None, length, slice_get, ◌⊎◌}
use Rattle.std.proofs.Math.ListN.{take}
use Rattle.event_core.specs.declared.ids.LockId.{LockId}
use Rattle.event_core.specs.declared.events.Event.{Event}
use Rattle.event_core.specs.declared.events.Call.{Call}
use Rattle.event_core.specs.declared.events.Op.TheVariants.{Release}
use Rattle.event_core.specs.declared.events.Act.{Act}
use Rattle.event_core.specs.declared.events.Act.TheVariants.{One}
use Rattle.event_core.specs.declared.bounds.Limits.{Limits}
use Rattle.event_core.specs.Acts.{act_refusal}

-- the answers to what was asked were added, and the log is that at the end of the run
pub record Ran {Q A : Type 0} (runs : List Q → List A → List Event → Type 0) (asked : List Q)
    (before after : List A) (end : List Event) : Type 0 where
  pub added : List A
  pub answers : after ≡ before ++ added
  pub is_run : runs asked added end

-- the act may want memory after the log: the definition does not refuse it, and it is no release
pub record MayWantMemory (m : Limits) (log : List Event) (a : Act) : Type 0 where
  pub allowed : act_refusal m log a ≡ None
  pub no_release : (c : Call) (l : LockId) → a ≡ One c → c.op ≡ Release l → ⊥

-- so many were run, and then there was a next one, which may want memory after the log at the end; or none
-- was run, where there was no room for all answers
pub record RanSome {Q A : Type 0} (runs : List Q → List A → List Event → Type 0) (m : Limits) (act : Q → Act)
    (asked : List Q) (room : ℕ) (before after : List A) (end : List Event) : Type 0 where
  pub count : ℕ
  pub ran : Ran runs (take count asked) before after end
  pub next : Q
  pub is_next : slice_get asked count ≡ Some next
  pub wanted : MayWantMemory m end (act next) ⊎ ((count ≡ 0) × (room < length asked))

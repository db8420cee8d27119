-- What the step of an event does to the parts.
use Rattle.std.specs.Prelude.{◌≡◌, ℕ, ◌+◌, ◌≤◌, length}
use Rattle.event_core.specs.declared.events.Event.{Event}
use Rattle.event_core.specs.Rows.{join, with_row, to_child, to_lock}
use Rattle.event_core.specs.Effect.{Effect, Accesses, effect_of}
use Rattle.hb_clocks.specs.State as hb
use Rattle.hb_clocks.specs.Tables.{KeepsRoom as KeepsOrder}
use Rattle.section_sum.specs.Sums.{noted_of}
use Rattle.lock_queues.specs.Queues.{closed_of, opened_of}
use Rattle.wcp_laws.specs.Step.{effect, hb_row, extra, opened_after, held_after, noted_after}
use Rattle.wcp_laws.specs.Step.{met_clock_after, closed_after}
use Rattle.wcp_laws.specs.Conditions.{found_at}
use Rattle.wcp_clocks.specs.Parts.{Parts, hb_of, state_of, found_in, SameLimits, most_joins, joins_at}
use Rattle.wcp_clocks.specs.Parts.{FewComparisons, NoFewer, KeepsReady, IsReady, Fits}
use Rattle.wcp_clocks.specs.HeldLists.{held_of}
use Rattle.wcp_clocks.specs.StrictRows.{strict_of}
use Rattle.wcp_clocks.specs.Growth.{IsClosing, KeepsMemory}
use Rattle.wcp_clocks.specs.Met.{met_clocks, AreNumbers}

-- the event has the effect k, there is room for it, and the numbers are as it asks
pub record IsDue (e : Event) (k : Effect) (p : Parts) : Type 0 where
  pub effect : effect_of ((hb_of p).depth e.thread.0) e.op ≡ k
  pub ready : IsReady p e.thread e.op
  pub fits : Fits e p

-- the event's strict clock, where the effect is k
abbrev pub strict_clock : Event → Effect → Parts → ℕ → ℕ
strict_clock e k p = join ((strict_of p.rows).thread e.thread.0) (extra e.thread k (state_of p))

-- an access keeps what was ready
abbrev pub KeepsFor : Effect → Parts → Parts → Type 0
KeepsFor (Accesses x k) old new = KeepsReady old new
KeepsFor _ old new = Unit {0}

-- the step part by part, where the effect is k
pub record IsStepBy (e : Event) (k : Effect) (old new : Parts) : Type 0 where
  pub hb : hb_of new ≡ hb.after e (hb_of old)
  pub order_room : KeepsOrder old.hb new.hb
  pub threads : (strict_of new.rows).thread ≡ to_child k (strict_clock e k old)
      (with_row e.thread.0 (strict_clock e k old) (strict_of old.rows).thread)
  pub locks : (strict_of new.rows).lock ≡ to_lock k (strict_clock e k old) (strict_of old.rows).lock
  pub opened : opened_of new.queues
      ≡ opened_after e.thread.0 k (hb_row e (state_of old) e.thread.0) (opened_of old.queues)
  pub held : held_of new.held ≡ held_after e.thread.0 k (held_of old.held)
  pub noted : noted_of new.sums ≡ noted_after e.thread.0 k (hb_of old).depth (noted_of old.sums)
  pub met : met_clocks new.sums (closed_of new.queues)
      ≡ met_clock_after e.thread.0 k (hb_row e (state_of old)) (state_of old)
  pub numbers : AreNumbers new.sums (closed_of new.queues)
  pub closed : closed_of new.queues ≡ closed_after e.thread.0 k (hb_row e (state_of old)) (state_of old)
  pub found : found_in new ≡ found_at e.thread k (state_of old) (found_in old)
  pub joins : new.work.joins ≤ old.work.joins + most_joins k (length (held_of old.held e.thread.0))
  pub joins_exact : new.work.joins ≡ old.work.joins + joins_at e.thread k old
  pub comparisons : FewComparisons e.thread k old new
  pub no_fewer : NoFewer e.thread k old new
  pub memory : KeepsMemory (IsClosing k) old new
  pub limits : SameLimits old new
  pub kept : KeepsFor k old new

-- the step of the event
abbrev pub IsStep : Event → Parts → Parts → Type 0
IsStep e old new = IsStepBy e (effect e (state_of old)) old new

-- The steps of inner events, forks and joins, and of an outer acquire, from what their parts do.
use Rattle.std.proofs.Common.{◌≡◌, ℕ, ◌+◌, sym, ap, refl, ◌∙◌, arith}
use Rattle.event_core.specs.declared.events.Event.{Event}
use Rattle.event_core.specs.Rows.{join, no_clock, with_row, to_child}
use Rattle.event_core.specs.Effect.{Effect, Accesses, Opens, Closes}
use Rattle.event_core.proofs.RowsAfterProperties.{row_same}
use Rattle.hb_clocks.specs.State as hb
use Rattle.hb_clocks.specs.Tables as hb_tables
use Rattle.hb_clocks.specs.Work.{Done, more_joins}
use Rattle.lock_queues.specs.Queues.{closed_of}
use Rattle.wcp_laws.specs.Step.{effect, extra}
use Rattle.wcp_clocks.specs.Parts.{Parts, hb_of, state_of, parts_of, joins_at}
use Rattle.wcp_clocks.specs.Met.{AreNumbers}
use Rattle.wcp_clocks.specs.StrictRows.{StrictTables, strict_of, SameRoom}
use Rattle.wcp_clocks.specs.Stepping.{strict_clock, IsStepBy}
use Rattle.wcp_clocks.proofs.Memory.{sums_stay, queues_stay, held_stay}
use Rattle.hb_clocks.proofs.WithRowProperties.{row_kept}
use Rattle.wcp_clocks.proofs.Rows.{join_nothing}

-- where the event adds nothing, the strict clock is as it was
pub plain_strict : (e : Event) (k : Effect) (old : Parts) → extra e.thread k (state_of old) ≡ no_clock
    → strict_clock e k old ≡ (strict_of old.rows).thread e.thread.0
plain_strict e k old none =
    ap (λ (b : ℕ → ℕ). join ((strict_of old.rows).thread e.thread.0) b) none
    ∙ join_nothing ((strict_of old.rows).thread e.thread.0)

-- and the row is written with what it has
pub plain_threads : (e : Event) (k : Effect) (old : Parts) → extra e.thread k (state_of old) ≡ no_clock
    → (strict_of old.rows).thread
    ≡ with_row e.thread.0 (strict_clock e k old) (strict_of old.rows).thread
plain_threads e k old none =
    sym (row_kept e.thread.0 _ (strict_of old.rows).thread refl)
    ∙ ap (λ (c : ℕ → ℕ). with_row e.thread.0 c (strict_of old.rows).thread) (sym (plain_strict e k old none))

-- how many joins happens-before takes, where the effect is known
pub joins_told : (e : Event) (k : Effect) (old : Parts) (before after : Done) → effect e (state_of old) ≡ k
    → after ≡ more_joins (hb.joins_of (hb.effect e (hb_of old))) before
    → after.joins ≡ before.joins + hb.joins_of k
joins_told e k old before after told done =
    ap (λ (d : Done). d.joins) done ∙ ap (λ k. before.joins + hb.joins_of k) told

-- the row of the event's own thread
pub own_written : (e : Event) (k : Effect) (old : Parts) (rows : StrictTables)
    → (strict_of rows).thread ≡ with_row e.thread.0 (strict_clock e k old) (strict_of old.rows).thread
    → (strict_of rows).thread e.thread.0 ≡ strict_clock e k old
own_written e k old rows is = ap (λ (f : ℕ → ℕ → ℕ). f e.thread.0) is
    ∙ row_same e.thread.0 (strict_clock e k old) (strict_of old.rows).thread

-- clocks alone change at an inner event, a fork and a join
abbrev pub ChangesClocks : Effect → Type 0
ChangesClocks (Accesses x k) = ⊥
ChangesClocks (Opens l) = ⊥
ChangesClocks (Closes l) = ⊥
ChangesClocks _ = Unit {0}

module _ {e : Event} {old : Parts} {tables : hb_tables.ClockTables} {rows : StrictTables} {done : Done}
    (taken : Done) (numbers : AreNumbers old.sums (closed_of old.queues))
    (exact : hb_tables.state_of tables ≡ hb.after e (hb_of old)) (width : tables.width ≡ old.hb.width)
    (order : hb_tables.KeepsRoom old.hb tables) (memory : hb_tables.SameMemory old.hb tables)
    (work : done ≡ more_joins (hb.joins_of (hb.effect e (hb_of old))) taken)
    (locks : (strict_of rows).lock ≡ (strict_of old.rows).lock) (room : SameRoom old.rows rows)
    (comparisons : taken.comparisons ≡ old.work.comparisons) where
  -- the step of such an event, from what its clocks do: all else stays as it was
  pub clocks_step : (k : Effect) → ChangesClocks k → effect e (state_of old) ≡ k
      → (strict_of rows).thread ≡ to_child k (strict_clock e k old)
      (with_row e.thread.0 (strict_clock e k old) (strict_of old.rows).thread)
      → taken.joins + hb.joins_of k ≡ old.work.joins + joins_at e.thread k old
      → IsStepBy e k old (parts_of tables rows old.sums old.queues old.held done)
  clocks_step (Accesses x j) other told threads joins = absurd other
  clocks_step (Opens l) other told threads joins = absurd other
  clocks_step (Closes l) other told threads joins = absurd other
  clocks_step k alone told threads joins =
      let joined = joins_told e k old taken done told work in
      record {
        hb = exact;
        order_room = order;
        threads = threads;
        locks = locks;
        opened = refl;
        held = refl;
        noted = refl;
        met = refl;
        numbers = numbers;
        closed = refl;
        found = refl;
        joins = omega arith;
        joins_exact = joined ∙ joins;
        comparisons = ap (λ (d : Done). d.comparisons) work ∙ comparisons;
        no_fewer = tt;
        memory = record {
          order = memory;
          rows = room;
          sums = sums_stay old.sums;
          queues = (queues_stay old.queues).places;
          numbers = λ other. refl;
          held = held_stay old.held;
        };
        limits = record { width = width; limits = refl };
        kept = tt;
      }

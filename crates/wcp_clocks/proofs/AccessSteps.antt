-- The step of an access, from what its parts do.
use Rattle.std.proofs.Common.{◌≡◌, ℕ, ◌+◌, ◌*◌, ◌<◌, ◌≤◌, ◌||◌, List, length, refl, sym, ap, ap₂, subst, ◌∙◌}
use Rattle.std.proofs.Common.{◌↔◌, arith}
use Rattle.std.proofs.lemmas.List.{length-map}
use Rattle.event_core.specs.declared.ids.LockId.{LockId}
use Rattle.event_core.specs.declared.ids.VarId.{VarId}
use Rattle.event_core.specs.declared.events.Event.{Event}
use Rattle.event_core.specs.declared.events.AccessKind.{AccessKind}
use Rattle.event_core.specs.declared.events.Op.{Op}
use Rattle.event_core.specs.declared.events.Op.TheVariants.{Load, Store, Acquire}
use Rattle.event_core.specs.Closed.{Has}
use Rattle.event_core.specs.Rows.{join, with_row}
use Rattle.event_core.specs.Effect.{Accesses}
use Rattle.hb_clocks.specs.State as hb
use Rattle.hb_clocks.specs.Tables as hb_tables
use Rattle.hb_clocks.specs.Work.{Done, more_joins}
use Rattle.lock_queues.specs.Queues.{closed_of}
use Rattle.section_sum.specs.Sums.{Sums, noted_of, is_access, SameOthers, KeepsReady as sum_rooms}
use Rattle.section_sum.specs.Sums.{SameMemory as SameSums}
use Rattle.wcp_laws.specs.Step.{effect, join_all}
use Rattle.wcp_clocks.specs.Parts.{Parts, hb_of, state_of, Fits, HasPlaces, KeepsReady}
use Rattle.wcp_clocks.specs.HeldLists.{list_at, numbers_of, held_of}
use Rattle.wcp_clocks.specs.StrictRows.{StrictTables, strict_of, SameRoom}
use Rattle.wcp_clocks.specs.Stepping.{IsStepBy}
use Rattle.wcp_clocks.specs.Met.{met_clocks, met_under, joins_under, AreNumbers}
use Rattle.wcp_clocks.proofs.GrownForProperties.{rows_ready}
use Rattle.wcp_clocks.proofs.Memory.{queues_stay, held_stay}
use Rattle.wcp_clocks.proofs.RowsKept.{room_kept}
use Rattle.wcp_clocks.proofs.OtherSteps.{joins_told}
use Rattle.wcp_clocks.proofs.EffectWords.{same_sources, same_noted, same_clocks, same_numbers}

-- what was ready stays so
access_keeps : (old : Parts) (rows : StrictTables) (tables : hb_tables.ClockTables) (sums : Sums)
    (work : Done) → hb_tables.KeepsRoom old.hb tables → SameRoom old.rows rows → sum_rooms old.sums sums
    → KeepsReady old (record {
      hb = tables;
      rows = rows;
      sums = sums;
      queues = old.queues;
      held = old.held;
      work = work;
    })
access_keeps old rows tables sums work hb kept rooms t op ready = record {
  hb = hb t op ready.hb;
  rows = rows_ready old.rows rows t op (room_kept kept) ready.rows;
  places = places op ready.places;
}
  where
    places : (op : Op) → HasPlaces old.sums old.queues old.held t op
        → HasPlaces sums old.queues old.held t op
    places (Load x) room = λ l h. rooms l x.0 (room l h)
    places (Store x) room = λ l h. rooms l x.0 (room l h)
    places (Acquire l) room = room
    places _ room = tt

module _ (e : Event) (x : VarId) (k : AccessKind) (old : Parts)
    (told : effect e (state_of old) ≡ Accesses x k)
    (fits : Fits e old) where
  abbrev t : ℕ
  t = e.thread.0

  -- the step of an access, from the strict rows that took the met sections' clocks
  pub access_step : (locks : List LockId) (taken : StrictTables) (tables : hb_tables.ClockTables)
      (sums : Sums)
      (joined work : Done) → locks ≡ (list_at old.held t).locks
      → (strict_of taken).thread ≡ with_row t
      (join ((strict_of old.rows).thread t) (join_all (met_under (met_clocks old.sums
      (closed_of old.queues)) x.0 k t)
      (numbers_of locks)))
      (strict_of old.rows).thread
      → (strict_of taken).lock ≡ (strict_of old.rows).lock → SameRoom old.rows taken
      → joined.joins ≤ old.work.joins + 2 * length locks
      → joined.joins ≡ old.work.joins + joins_under old.sums x.0 k t (numbers_of locks)
      → joined.comparisons ≡ old.work.comparisons
      → ((v l y : ℕ) (j : AccessKind) → noted_of sums v l y j
      ≡ (noted_of old.sums v l y j || is_access t locks x.0 k v l y j))
      → SameOthers old.sums sums → AreNumbers old.sums (closed_of old.queues)
      → hb_tables.state_of tables ≡ hb.after e (hb_of old) → tables.width ≡ old.hb.width
      → hb_tables.KeepsRoom old.hb tables
      → work ≡ more_joins (hb.joins_of (hb.effect e (hb_of old))) joined → sum_rooms old.sums sums
      → hb_tables.SameMemory old.hb tables → SameSums old.sums sums
      → IsStepBy e (Accesses x k) old
      (record { hb = tables; rows = taken; sums = sums; queues = old.queues; held = old.held; work = work })
  access_step locks taken tables sums joined work of threads lock room joins made comparisons noted others
      numbers exact width order done rooms order_memory sums_memory =
      record {
        hb = exact;
        order_room = order;
        threads = threads ∙ ap₂ (λ (f : ℕ → ℕ → ℕ) (ns : List ℕ). with_row t
            (join ((strict_of old.rows).thread t) (join_all f ns)) (strict_of old.rows).thread)
            (same_sources (state_of old) x k e.thread) (ap numbers_of of);
        locks = lock;
        opened = refl;
        held = refl;
        noted = same_noted old.sums sums (hb_of old).depth e.thread locks x k
            (λ l. subst (λ ls. Has l.0 (numbers_of ls) ↔ (0 < (hb_of old).depth t l.0))
            (sym of) (fits.held l)) noted;
        met = same_clocks old.sums sums (closed_of old.queues) others;
        numbers = same_numbers old.sums sums (closed_of old.queues) others numbers;
        closed = refl;
        found = refl;
        joins = (let w = joins_told e (Accesses x k) old joined work told done in
            let n : length (held_of old.held t) ≡ length locks =
            length-map (list_at old.held t).locks (λ (l : LockId). l.0)
            ∙ ap (λ (ls : List LockId). length ls) (sym of) in
            omega arith);
        joins_exact = (let w = joins_told e (Accesses x k) old joined work told done in
            let n = ap (λ (ls : List LockId). joins_under old.sums x.0 k t (numbers_of ls)) of in
            omega arith);
        comparisons = ap (λ (d : Done). d.comparisons) done ∙ comparisons;
        no_fewer = tt;
        memory = record {
          order = order_memory;
          rows = room;
          sums = sums_memory;
          queues = (queues_stay old.queues).places;
          numbers = λ other. refl;
          held = held_stay old.held;
        };
        limits = record { width = width; limits = refl };
        kept = access_keeps old taken tables sums work order room rooms;
      }

-- What an accepted call makes of a log's meaning.
use Rattle.std.proofs.Common.{◌≡◌, ◌<◌, None, List, [], ◌∷◌, ◌++◌, refl, arith}
use Rattle.std.proofs.lemmas.List.{length_push}
use Rattle.std.proofs.lemmas.Option.{slice_get_within}
use Rattle.event_core.specs.declared.events.Event.{Event}
use Rattle.event_core.specs.declared.events.Call.{Call}
use Rattle.event_core.specs.declared.bounds.Limits.{Limits}
use Rattle.event_core.specs.Refusal.{refusal, lock_depth, holder, last_acquirer, open_acquires, last_value}
use Rattle.event_core.specs.Refusal.{event_of, WellFormed}
use Rattle.traced_mem.specs.Meaning.{nothing}
use Rattle.traced_mem.specs.After.{after}
use Rattle.traced_mem.specs.Standing.{held_in, meaning_of}
use Rattle.traced_mem.proofs.LocksAfter.{locks_law}
use Rattle.traced_mem.proofs.CellsAfter.{cells_law}
use Rattle.traced_mem.proofs.HoldsAfter.{holds_law}
use Rattle.traced_mem.proofs.ThreadsAfter.{threads_law}

-- the empty log
pub none_well_formed : (k : Limits) → WellFormed k []
none_well_formed k = record {
  legal = λ i e at. absurd (let within : i < 0 = slice_get_within [] i e at in omega arith);
}

-- the empty log has the meaning of a memory before any event
pub no_log : meaning_of [] ≡ nothing
unfolding open_acquires last_value holder last_acquirer held_in lock_depth
no_log = refl

module _ (k : Limits) (log : List Event) (c : Call) (w : WellFormed k log) (h : refusal k log c ≡ None) where
  -- the meaning after an accepted call
  pub after_law : meaning_of (log ++ event_of log c ∷ []) ≡ after c.thread c.op c.arg (meaning_of log)
  after_law i = record {
    length = length_push log (event_of log c) i;
    holds = holds_law k log c w h i;
    thread = threads_law k log c w h i;
    lock = locks_law k log c w h i;
    cell = cells_law k log c w h i;
  }

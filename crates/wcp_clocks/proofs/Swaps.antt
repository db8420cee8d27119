-- Room for a swap: its load and its store need the same.
use Rattle.std.proofs.Common.{◌≡◌, sym, subst}
use Rattle.event_core.specs.declared.ids.ThreadId.{ThreadId}
use Rattle.event_core.specs.declared.ids.VarId.{VarId}
use Rattle.event_core.specs.declared.events.Event.{Event}
use Rattle.event_core.specs.declared.events.Op.{Op}
use Rattle.event_core.specs.declared.events.Op.TheVariants.{Load, Store}
use Rattle.wcp_clocks.specs.Parts.{Parts, IsReady}
use Rattle.wcp_clocks.specs.Growth.{GrownFor, MadeFor}

store_ready : (p : Parts) (t : ThreadId) (x : VarId) → IsReady p t (Load x) → IsReady p t (Store x)
store_ready p t x r = record {
  hb = record { thread = r.hb.thread; clocks = r.hb.clocks; hold = r.hb.hold };
  rows = record { thread = r.rows.thread; named = r.rows.named };
  places = r.places;
}

store_grown : (old new : Parts) (t : ThreadId) (x : VarId) → GrownFor old new t (Load x)
    → GrownFor old new t (Store x)
store_grown old new t x g = record {
  accesses = g.accesses;
  locks = g.locks;
  sections = g.sections;
  holds = g.holds;
}

store_made : (old new : Parts) (t : ThreadId) (x : VarId) → MadeFor old new t (Load x)
    → MadeFor old new t (Store x)
store_made old new t x m = record {
  order = record {
    po = m.order.po;
    hb = m.order.hb;
    lock = m.order.lock;
    holds = m.order.holds;
    thread_room = m.order.thread_room;
    lock_room = m.order.lock_room;
  };
  rows = m.rows;
}

-- the two events are those of a swap
module _ (load store : Event) (x : VarId) (load_op : load.op ≡ Load x) (store_op : store.op ≡ Store x)
    (thread : load.thread ≡ store.thread) where
  -- what is ready for the load, or was made for it, is ready for the store, or was made for that
  to_store : (P : ThreadId → Op → Type 0) → (P store.thread (Load x) → P store.thread (Store x))
      → P load.thread load.op → P store.thread store.op
  to_store P both h =
      subst (P store.thread) (sym store_op)
      (both (subst (λ (t : ThreadId). P t (Load x)) thread (subst (P load.thread) load_op h)))

  -- parts that are ready for the load are ready for the store
  pub swap_ready : (p : Parts) → IsReady p load.thread load.op → IsReady p store.thread store.op
  swap_ready p = to_store (IsReady p) (store_ready p store.thread x)

  -- growth for the load is growth for the store
  pub swap_grown : (old new : Parts) → GrownFor old new load.thread load.op
      → GrownFor old new store.thread store.op
  swap_grown old new = to_store (GrownFor old new) (store_grown old new store.thread x)

  -- what was made for the load is made for the store
  pub swap_made : (old new : Parts) → MadeFor old new load.thread load.op
      → MadeFor old new store.thread store.op
  swap_made old new = to_store (MadeFor old new) (store_made old new store.thread x)

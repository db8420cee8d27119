-- Parts that have more room are as before in all else.
use Rattle.std.proofs.Common.{◌≡◌, ℕ, ◌<◌, List, [], ◌∷◌, length, Bool, true, false, ◌||◌, nat_eq, refl}
use Rattle.std.proofs.Common.{sym, ap, ap₂, subst, ◌∙◌, IsTrue, arith, inl, inr, ◌⊎◌, Result, Ok, Err, OnOk}
use Rattle.std.proofs.Common.{OnErr}
use Rattle.std.proofs.lemmas.Bool.{cases_eq}
use Rattle.event_core.specs.declared.replies.OutOfMemory.{OutOfMemory}
use Rattle.event_core.proofs.RowsAfterProperties.{cell_same, cell_other}
use Rattle.std.specs.List.{list_any}
use Rattle.event_core.specs.declared.ids.ThreadId.{ThreadId}
use Rattle.event_core.specs.declared.ids.LockId.{LockId}
use Rattle.event_core.specs.declared.events.Op.{Op}
use Rattle.event_core.specs.declared.events.Op.TheVariants.{Load, Store, Acquire, Release, Fork, Join}
use Rattle.event_core.specs.declared.events.AccessKind.{AccessKind}
use Rattle.event_core.specs.Bounds.{Bounds}
use Rattle.event_core.specs.Rows.{with_row, no_rows}
use Rattle.hb_clocks.specs.State.{HbState, empty as hb_empty}
use Rattle.hb_clocks.specs.Tables as hb
use Rattle.hb_clocks.specs.Work.{Done}
use Rattle.section_sum.specs.Sums.{Sums, IsReady as SumsAreReady, is_held, noted_of, others_of}
use Rattle.lock_queues.specs.Queues.{AllQueues as Queues, SameMeaning, closed_of, opened_of, is_ready}
use Rattle.wcp_laws.specs.State.{State, empty}
use Rattle.wcp_clocks.specs.Parts.{Parts, parts_of, hb_of, state_of, HasPlaces, KeepsReady, SameNumbers}
use Rattle.wcp_clocks.specs.Parts.{AreParts}
use Rattle.wcp_clocks.specs.HeldLists.{HeldList, list_at, numbers_of, held_of}
use Rattle.wcp_clocks.specs.StrictRows.{StrictTables, strict_of, HasThread, HasLock, SameClocks, KeepsRoom}
use Rattle.wcp_clocks.specs.StrictRows.{HasNamed, IsReady, GrownFor}
use Rattle.event_core.specs.Closed.{Closed}
use Rattle.wcp_clocks.specs.Met.{release_at}
use Rattle.wcp_clocks.specs.Growth.{ClocksHaveGrown, SumsHaveGrown, QueuesHaveGrown, HoldsHaveGrown, HasGrown}
use Rattle.wcp_clocks.proofs.AreOrderedProperties.{ordered_more, ordered_grown}

-- a part that stays
pub sums_same : (s : Sums) → SumsHaveGrown s s
sums_same s = record { noted = λ t l v k. refl; others = λ l v k t. refl; room = λ l v r. r }

-- queues that are left as they were have grown
pub queues_same : (q : Queues) → QueuesHaveGrown q q
queues_same q = record {
  same = record { closed = refl; opened = refl; found = refl; limits = refl };
  room = λ t l r. r;
}

-- lists of held locks that are left as they were have grown
pub held_same : (held : List HeldList) → HoldsHaveGrown held held
held_same held = record { same = refl; room = λ t r. r }

-- the clocks of happens-before have grown, and the strict ones stay
pub order_grown : (old new : hb.ClockTables) (rows : StrictTables) → hb.state_of new ≡ hb.state_of old
    → new.width ≡ old.width → hb.KeepsRoom old new → ClocksHaveGrown old new rows rows
order_grown old new rows same width kept = record {
  order = same;
  width = width;
  order_room = kept;
  rows = record { strict = refl };
  rows_room = record { width = refl; thread = λ t r. r; lock = λ l r. r };
  ordered = ordered_more rows old new kept;
}

-- clocks that are left as they were have grown
pub clocks_same : (order : hb.ClockTables) (rows : StrictTables) → ClocksHaveGrown order order rows rows
clocks_same order rows = order_grown order order rows refl refl (λ t op r. r)

-- and then the strict ones have grown too, for an operation for which the others have room
pub rows_grown : {old new : hb.ClockTables} {was is : StrictTables} (t : ThreadId) (op : Op)
    → ClocksHaveGrown old new was was → SameClocks was is → KeepsRoom was is → hb.IsReady new t op
    → GrownFor was is t op → ClocksHaveGrown old new was is
rows_grown {new = new} {was = was} {is = is} t op g same kept ready grown = record {
  order = g.order;
  width = g.width;
  order_room = g.order_room;
  rows = same;
  rows_room = kept;
  ordered = λ o. ordered_grown was is new t op ready grown (g.ordered o);
}

-- parts that have grown each
pub all_grown : {order more : hb.ClockTables} {was is : StrictTables} {s t : Sums} {q r : Queues}
    {h g : List HeldList} {work : Done} → ClocksHaveGrown order more was is → SumsHaveGrown s t
    → QueuesHaveGrown q r → HoldsHaveGrown h g
    → HasGrown (parts_of order was s q h work) (parts_of more is t r g work)
all_grown clocks sums queues held =
    record { clocks = clocks; sums = sums; queues = queues; held = held; work = refl }

grown_numbers : {old new : Parts} → HasGrown old new → SameNumbers old new
grown_numbers g = record {
  state = λ i. record {
    hb = (g.clocks.order i).hb;
    strict = g.clocks.rows.strict i;
    depth = (g.clocks.order i).depth;
    opened = g.queues.same.opened i;
    held = g.held.same i;
    noted = λ t l v k. g.sums.noted t l v k i;
    met_clock = λ l v k t. release_at (g.queues.same.closed i l) (g.sums.others l v k t i);
    closed = g.queues.same.closed i;
  };
  hb = g.clocks.order;
  found = g.queues.same.found;
  work = g.work;
}

-- a lock is one of a list where its number is
pub held_numbers : (held : List LockId) (l : ℕ) → is_held held l ≡ list_any (nat_eq l) (numbers_of held)
held_numbers [] l = refl
held_numbers (m ∷ ms) l = ap (λ b. nat_eq l m.0 || b) (held_numbers ms l)

-- what there was room for beside clocks
places_kept : (old new : Parts) (t : ThreadId) (op : Op) → HasGrown old new
    → HasPlaces old.sums old.queues old.held t op → HasPlaces new.sums new.queues new.held t op
places_kept old new t op g = go op
  where
    access : (v : ℕ) → SumsAreReady old.sums (list_at old.held t.0).locks v
        → SumsAreReady new.sums (list_at new.held t.0).locks v
    access v room l is =
        g.sums.room l v (room l (held_numbers (list_at old.held t.0).locks l
        ∙ ap (λ (f : ℕ → List ℕ). list_any (nat_eq l) (f t.0)) (sym g.held.same)
        ∙ sym (held_numbers (list_at new.held t.0).locks l) ∙ is))

    go : (op : Op) → HasPlaces old.sums old.queues old.held t op
        → HasPlaces new.sums new.queues new.held t op
    go (Load x) r = access x.0 r
    go (Store x) r = access x.0 r
    go (Acquire l) r = (g.queues.room t.0 l.0 r.0, g.held.room t.0 r.1)
    go _ r = tt

-- the clocks that an operation needs stay
pub rows_ready : (old new : StrictTables) (t : ThreadId) (op : Op) → KeepsRoom old new → IsReady old t op
    → IsReady new t op
rows_ready old new t op kept has = record { thread = kept.thread t.0 has.thread; named = go op has.named }
  where
    go : (op : Op) → HasNamed old op → HasNamed new op
    go (Acquire l) n = kept.lock l.0 n
    go (Release l) n = kept.lock l.0 n
    go (Fork u) n = kept.thread u.0 n
    go (Join u) n = kept.thread u.0 n
    go _ n = tt

grown_ready : {old new : Parts} → HasGrown old new → KeepsReady old new
grown_ready {old} {new} g t op r = record {
  hb = g.clocks.order_room t op r.hb;
  rows = rows_ready old.rows new.rows t op g.clocks.rows_room r.rows;
  places = places_kept old new t op g r.places;
}

-- parts with more room are still as they ought to be
pub grown_parts : {old new : Parts} → HasGrown old new → AreParts old → AreParts new
grown_parts g a = record {
  rows = g.clocks.rows_room.width ∙ a.rows ∙ sym g.clocks.width;
  queues = ap (λ (b : Bounds). b.threads) g.queues.same.limits ∙ a.queues ∙ sym g.clocks.width;
  numbers = λ l x k t.
      (let e = g.sums.others l x k t in
      let n = a.numbers l x k t in
      let w = ap (λ (f : ℕ → List Closed). length (f l)) g.queues.same.closed in
      omega arith);
  held_thread = λ t l up. g.clocks.rows_room.thread t
      (a.held_thread t l (subst (λ (s : HbState). 0 < s.depth t l) g.clocks.order up));
  held_lock = λ t l up. g.clocks.rows_room.lock l
      (a.held_lock t l (subst (λ (s : HbState). 0 < s.depth t l) g.clocks.order up));
  ordered = g.clocks.ordered a.ordered;
}

-- the same of the parts that are seen, where they are those within
module _ {inside now new : Parts} (is : inside ≡ now) (grown : HasGrown inside new) where
  -- what was ready stays ready
  pub seen_ready : KeepsReady now new
  seen_ready = subst (λ (p : Parts). KeepsReady p new) is (grown_ready grown)

  -- the numbers are the same
  pub seen_numbers : SameNumbers now new
  seen_numbers = subst (λ (p : Parts). SameNumbers p new) is (grown_numbers grown)

-- a table with one place more that is true
row_true : (t l : ℕ) (f : ℕ → ℕ → Bool) (u m : ℕ) → f u m ≡ true
    → with_row t (with_row l true (f t)) f u m ≡ true
row_true t l f u m is = go (cases_eq u t) (cases_eq m l)
  where
    go : (u ≡ t) ⊎ (u ≡ t → ⊥) → (m ≡ l) ⊎ (m ≡ l → ⊥) → with_row t (with_row l true (f t)) f u m ≡ true
    go (inl e) (inl s) = ap₂ (with_row t (with_row l true (f t)) f) e s ∙ cell_same t l true f
    go (inl e) (inr n) = cell_other t l true f u m (λ _ q. n q) ∙ is
    go (inr n) _ = cell_other t l true f u m (λ q _. n q) ∙ is

-- room is made in the queues of a lock, or none is
pub queues_grown : {old new : Queues} (r : Result (Unit {0}) OutOfMemory) (t l : ℕ) → SameMeaning old new
    → OnOk r (is_ready new ≡ with_row t (with_row l true (is_ready old t)) (is_ready old))
    → OnErr r (is_ready new ≡ is_ready old) → QueuesHaveGrown old new
queues_grown {old} {new} r t l same ok err = record { same = same; room = λ u m is. kept r ok err u m is }
  where
    kept : (r : Result (Unit {0}) OutOfMemory)
        → OnOk r (is_ready new ≡ with_row t (with_row l true (is_ready old t)) (is_ready old))
        → OnErr r (is_ready new ≡ is_ready old)
        → (u m : ℕ) → IsTrue (is_ready old u m) → IsTrue (is_ready new u m)
    kept (Ok x) ok err u m is = ap (λ (f : ℕ → ℕ → Bool). f u m) ok ∙ row_true t l (is_ready old) u m is
    kept (Err x) ok err u m is = ap (λ (f : ℕ → ℕ → Bool). f u m) err ∙ is

-- a place that was made for a thread's section on a lock is there
pub queue_made : (old new : ℕ → ℕ → Bool) (t l : ℕ) → new ≡ with_row t (with_row l true (old t)) old
    → IsTrue (new t l)
queue_made old new t l is = ap (λ (f : ℕ → ℕ → Bool). f t l) is ∙ cell_same t l true old

-- parts without numbers
pub empty_numbers : (p : Parts) → hb_of p ≡ hb_empty → strict_of p.rows ≡ no_rows
    → opened_of p.queues ≡ (λ _ _. 0) → held_of p.held ≡ (λ _. [])
    → ((t l x : ℕ) (k : AccessKind) → noted_of p.sums t l x k ≡ false)
    → ((l x : ℕ) (k : AccessKind) (t : ℕ) → others_of p.sums l x k t ≡ 0)
    → closed_of p.queues ≡ (λ _. []) → state_of p ≡ empty
empty_numbers p hb strict opened held noted others closed i = record {
  hb = (hb i).hb;
  strict = strict i;
  depth = (hb i).depth;
  opened = opened i;
  held = held i;
  noted = λ t l x k. noted t l x k i;
  met_clock = λ l x k t. release_at (closed i l) (others l x k t i);
  closed = closed i;
}

-- and of one width
pub are_parts : (p : Parts) → state_of p ≡ empty → p.rows.width ≡ p.hb.width
    → p.queues.limits.threads ≡ p.hb.width
    → ((l x : ℕ) (k : AccessKind) (t : ℕ) → others_of p.sums l x k t ≡ 0)
    → ((t : ℕ) → HasThread p.rows t → ⊥) → ((l : ℕ) → HasLock p.rows l → ⊥) → AreParts p
are_parts p is rows queues others no_thread no_lock = record {
  rows = rows;
  queues = queues;
  numbers = λ l x k t. (let e = others l x k t in omega arith);
  held_thread = λ t l up. absurd (none t l up);
  held_lock = λ t l up. absurd (none t l up);
  ordered = record { thread = λ t has. absurd (no_thread t.0 has); lock = λ l has. absurd (no_lock l.0 has) };
}
  where
    none : (t l : ℕ) → 0 < (hb_of p).depth t l → ⊥
    none t l up = let z : (hb_of p).depth t l ≡ 0 = ap (λ (s : State). s.depth t l) is in omega arith

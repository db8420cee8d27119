-- The step of an event on the tables is the step of what they mean.
use Rattle.std.proofs.Common.{◌≡◌, ℕ, ◌<◌, ◌≤◌, ◌+◌, ◌^◌, max, List, length, refl, sym, ap, ap₂, ◌∙◌}
use Rattle.std.proofs.Common.{arith}
use Rattle.std.proofs.lemmas.List.{with_items_is}
use Rattle.std.specs.Vec.{with_items}
use Rattle.std.specs.declared.vec.Vec.{Vec}
use Rattle.event_core.specs.declared.ids.ThreadId.{ThreadId}
use Rattle.event_core.specs.declared.ids.LockId.{LockId}
use Rattle.event_core.specs.declared.events.Event.{Event}
use Rattle.event_core.specs.declared.events.Op.{Op}
use Rattle.event_core.specs.declared.events.Op.TheVariants.{Acquire, Release, Fork, Join}
use Rattle.event_core.specs.Rows.{clock_after, join, bump, with_row, Rows, to_child, to_lock, brought}
use Rattle.event_core.specs.Effect.{Effect, Opens, Joins}
use Rattle.event_core.proofs.RowsAfterProperties.{row_same}
use Rattle.hb_clocks.specs.declared.holds.Hold.{Hold}
use Rattle.hb_clocks.specs.Holds.{hold_at, holds_after, is_outer, effect_by, HasHold}
use Rattle.hb_clocks.specs.State.{HbState, effect, without_locks, after}
use Rattle.hb_clocks.specs.Standing.{IsFew, Admits, IsAlone}
use Rattle.hb_clocks.specs.Tables.{ClockTables, hb_rows, state_from, HasThread}
use Rattle.hb_clocks.specs.Tables.{HasClocks, KeepsRoom, SameRows, SameMemory, AreTables}
use Rattle.hb_clocks.specs.Rows.{rows_of, widths_of}
use Rattle.hb_clocks.proofs.HoldsProperties.{AloneAt, of_holder, outer_effect, depths_after, holds_length}
use Rattle.hb_clocks.proofs.MadeRows.{made_kept, wide_kept, written_widths}
use Rattle.hb_clocks.proofs.WithRowProperties.{row_again}

-- what is taken, then the event
module _ (t : ℕ) (source : ℕ → ℕ) (f taken bumped : ℕ → ℕ → ℕ)
    (takes : taken ≡ with_row t (join (f t) source) f)
    (bumps : bumped ≡ with_row t (bump t (taken t)) taken) where
  row : ℕ → ℕ
  row = bump t (join (f t) source)

  pub rows_bumped : bumped ≡ with_row t (bump t (join (f t) source)) f
  rows_bumped =
      bumps ∙ ap (λ (g : ℕ → ℕ → ℕ). with_row t (bump t (g t)) g) takes
      ∙ row_again t (bump t (with_row t (join (f t) source) f t)) (join (f t) source) f
      ∙ ap (λ (g : ℕ → ℕ). with_row t (bump t g) f) (row_same t (join (f t) source) f)

  own_bumped : bumped t ≡ bump t (join (f t) source)
  own_bumped = ap (λ (g : ℕ → ℕ → ℕ). g t) rows_bumped ∙ row_same t (bump t (join (f t) source)) f

  pub child_step : (k : Effect) (given : ℕ → ℕ → ℕ) → given ≡ to_child k (bumped t) bumped
      → given ≡ to_child k (bump t (join (f t) source)) (with_row t (bump t (join (f t) source)) f)
  child_step k given gives = gives ∙ ap₂ (to_child k) own_bumped rows_bumped

  pub lock_step : (k : Effect) (locks given : ℕ → ℕ → ℕ) → given ≡ to_lock k (bumped t) locks
      → given ≡ to_lock k (bump t (join (f t) source)) locks
  lock_step k locks given gives = gives ∙ ap (λ g. to_lock k g locks) own_bumped

-- a thread's own number after what is taken
pub own_few : (t most : ℕ) (source : ℕ → ℕ) (f taken : ℕ → ℕ → ℕ) → taken ≡ with_row t (join (f t) source) f
    → f t t ≤ most → source t ≤ most → taken t t ≤ most
own_few t most source f taken takes a b =
    let e : taken t t ≡ max (f t t) (source t) =
    ap (λ (g : ℕ → ℕ → ℕ). g t t) takes ∙ ap (λ (g : ℕ → ℕ). g t) (row_same t (join (f t) source) f) in
    omega arith

-- what is brought is as few as what it is brought from
pub brought_few : (most : ℕ) (r : Rows) → ((t u : ThreadId) → r.thread t.0 u.0 ≤ most)
    → ((l : LockId) (u : ThreadId) → r.lock l.0 u.0 ≤ most)
    → (k : Effect) (u : ThreadId) → brought k r u.0 ≤ most
brought_few most r a b (Joins v) u = a v u
brought_few most r a b (Opens l) u = b l u
brought_few most r a b _ u = omega arith

same_state : (a b : HbState) → a.po ≡ b.po → a.hb.thread ≡ b.hb.thread → a.hb.lock ≡ b.hb.lock
    → a.depth ≡ b.depth → a ≡ b
same_state a b p h l d i = record { po = p i; hb = record { thread = h i; lock = l i }; depth = d i }

pub alone_at : (s : HbState) (holds : List Hold) (t : ThreadId) (op : Op)
    → s.depth ≡ Rattle.hb_clocks.specs.Holds.depths_of holds → IsAlone s t op → AloneAt holds t.0 op
alone_at s holds t (Acquire l) e a = λ u n. sym (ap (λ (f : ℕ → ℕ → ℕ). f u l.0) e) ∙ a (record { 0 = u }) n
alone_at s holds t _ e a = tt

module _ (po hb lock : List (List ℕ)) (holds : List Hold) (e : Event) where
  abbrev old : HbState
  old = state_from po hb lock holds

  -- the effect as the code tells it
  abbrev pub told : Effect
  told = effect_by e.op (is_outer e.thread.0 e.op holds)

  pub effect_told : Admits (state_from po hb lock holds) e.thread e.op
      → effect e (state_from po hb lock holds) ≡ told
  effect_told a = outer_effect holds e.thread.0 e.op (alone_at old holds e.thread e.op refl a.alone)

  pub exact_step : (po' hb' lock' : List (List ℕ)) (holds' : List Hold) → HasHold (length holds) e.op
      → Admits (state_from po hb lock holds) e.thread e.op
      → rows_of po' ≡ to_child told (clock_after e.thread told (without_locks (rows_of po)))
      (with_row e.thread.0 (clock_after e.thread told (without_locks (rows_of po))) (rows_of po))
      → rows_of hb' ≡ to_child told (clock_after e.thread told (hb_rows hb lock))
      (with_row e.thread.0 (clock_after e.thread told (hb_rows hb lock)) (rows_of hb))
      → rows_of lock' ≡ to_lock told (clock_after e.thread told (hb_rows hb lock)) (rows_of lock)
      → holds' ≡ holds_after e.thread.0 e.op holds
      → state_from po' hb' lock' holds' ≡ after e (state_from po hb lock holds)
  exact_step po' hb' lock' holds' room a p h l d =
      let k : told ≡ effect e (state_from po hb lock holds) = sym (effect_told a) in
      same_state (state_from po' hb' lock' holds') (after e (state_from po hb lock holds))
      (p ∙ ap (λ k. to_child k (clock_after e.thread k (without_locks (rows_of po)))
      (with_row e.thread.0 (clock_after e.thread k (without_locks (rows_of po))) (rows_of po))) k)
      (h ∙ ap (λ k. to_child k (clock_after e.thread k (hb_rows hb lock))
      (with_row e.thread.0 (clock_after e.thread k (hb_rows hb lock)) (rows_of hb))) k)
      (l ∙ ap (λ k. to_lock k (clock_after e.thread k (hb_rows hb lock)) (rows_of lock)) k)
      (ap Rattle.hb_clocks.specs.Holds.depths_of d
      ∙ depths_after holds e.thread.0 e.op room (alone_at old holds e.thread e.op refl a.alone))

-- no lock is held more often than the greatest number of events
pub depth_few : (po hb lock : List (List ℕ)) (holds : List Hold) → IsFew (state_from po hb lock holds)
    → (l : ℕ) → (hold_at holds l).depth + 1 < 2 ^ 64
depth_few po hb lock holds few l =
    let h = few.depth (record { 0 = (hold_at holds l).holder }) (record { 0 = l }) in
    let e = of_holder holds l in
    omega arith

-- room that is kept by equal widths
pub thread_kept : (w t : ℕ) (po hb po' hb' : List (List ℕ)) → widths_of po' ≡ widths_of po
    → widths_of hb' ≡ widths_of hb
    → HasThread w po hb t → HasThread w po' hb' t
thread_kept w t po hb po' hb' p h r =
    record {
      within = r.within;
      po_made = made_kept w t po po' p r.po_made;
      hb_made =
          made_kept w t hb hb' h r.hb_made;
    }

pub clocks_kept : (w : ℕ) (po hb lock po' hb' lock' : List (List ℕ)) (op : Op)
    → widths_of po' ≡ widths_of po → widths_of hb' ≡ widths_of hb → widths_of lock' ≡ widths_of lock
    → HasClocks w po hb lock op → HasClocks w po' hb' lock' op
clocks_kept w po hb lock po' hb' lock' (Fork u) p h l r = thread_kept w u.0 po hb po' hb' p h r
clocks_kept w po hb lock po' hb' lock' (Join u) p h l r = thread_kept w u.0 po hb po' hb' p h r
clocks_kept w po hb lock po' hb' lock' (Acquire n) p h l r = made_kept w n.0 lock lock' l r
clocks_kept w po hb lock po' hb' lock' (Release n) p h l r = made_kept w n.0 lock lock' l r
clocks_kept w po hb lock po' hb' lock' _ p h l r = tt

pub hold_kept : (m n : ℕ) (op : Op) → m ≤ n → HasHold m op → HasHold n op
hold_kept m n (Acquire l) le h = omega arith
hold_kept m n (Release l) le h = omega arith
hold_kept m n _ le h = tt

-- rows that are written in their vector, and keep their widths
pub written_rows : {Z : Type 0} (v : Vec (List ℕ) Z) (read rows : List (List ℕ)) → length read ≡ v.len
    → read ≡ v.items → length rows ≡ length read → widths_of rows ≡ widths_of read
    → SameRows v.items (with_items v rows).items
written_rows v read rows len is same kept = record {
  count = ap length (with_items_is v rows (same ∙ len)) ∙ same ∙ ap length is;
  widths = written_widths v read rows len is same kept;
}

-- what the step keeps of tables and their room
pub record IsStepped (zeros : List ℕ) (old new : ClockTables) : Type 0 where
  pub tables : AreTables new.width zeros new.po new.hb new.lock
  pub kept : KeepsRoom old new
  pub memory : SameMemory old new

pub stepped : (zeros : List ℕ) (old : ClockTables) (po hb lock : List (List ℕ)) (holds : List Hold)
    (t : ThreadId)
    (op : Op) → SameRows old.po po → SameRows old.hb hb → SameRows old.lock lock
    → holds ≡ holds_after t.0 op old.holds
    → AreTables old.width zeros old.po old.hb old.lock
    → IsStepped zeros old (record old { po = po; hb = hb; lock = lock; holds = holds })
stepped zeros old po hb lock holds t op p h l d a = record {
  tables = record {
    some = a.some;
    only_zeros = a.only_zeros;
    po_wide = wide_kept old.width old.po po p.widths a.po_wide;
    hb_wide = wide_kept old.width old.hb hb h.widths a.hb_wide;
    lock_wide = wide_kept old.width old.lock lock l.widths a.lock_wide;
  };
  kept = λ u o r. record {
    thread = thread_kept old.width u.0 old.po old.hb po hb p.widths h.widths r.thread;
    clocks = clocks_kept old.width old.po old.hb old.lock po hb lock o p.widths h.widths l.widths r.clocks;
    hold = hold_kept (length old.holds) (length holds) o (omega (arith, same)) r.hold;
  };
  memory = record { po = p; hb = h; lock = l; holds = same; thread_room = refl; lock_room = refl };
}
  where
    same : length holds ≡ length old.holds
    same = ap length d ∙ holds_length old.holds t.0 op

-- The positions of the acquires of open sections, after an event.
use Rattle.std.proofs.Common.{◌≡◌, ℕ, ◌+◌, ◌-◌, List, [], ◌∷◌, ◌++◌, refl, sym, ap, subst, ◌∙◌, arith, take}
use Rattle.std.proofs.Math.Seq.{take-append_seam}
use mathlib.Core.Logic.{inl, inr}
use Rattle.event_core.proofs.Words.{Event, Acquire, Release, LockId, ThreadId}
use Rattle.event_core.specs.Closed.{Open, OpensSection, EndsSection}
use Rattle.event_core.specs.Count.{events_of}
use Rattle.event_core.specs.Log.{depth}
use Rattle.event_core.specs.Orderly.{Orderly}
use Rattle.event_core.specs.Rows.{with_row}
use Rattle.event_core.proofs.CountedProperties.{is_last, last_thread, last_op}
use Rattle.event_core.proofs.DepthProperties.{same_lock_id, same_thread_id}
use Rattle.event_core.proofs.RowsAfterProperties.{cell_same, cell_other}
use Rattle.event_core.proofs.EffectProperties.{front, depth_down}
use Rattle.event_core.proofs.LogProperties.{of_does}
use Rattle.event_core.proofs.OpenSections.{open_old, open_held}

-- the table has the position of the acquire of each open section
abbrev pub ArePositions : List Event → (ℕ → ℕ → ℕ) → Type 0
ArePositions log f =
    (t : ThreadId) (l : LockId) (a : ℕ) → Open log t l a → f t.0 l.0 ≡ events_of (take a log) t + 1

-- a lock that is not held has no open section
not_open : (xs : List Event) (u : ThreadId) (l : LockId) → depth xs u l ≡ 0
    → (t : ThreadId) (m : LockId) (a : ℕ) → Open xs t m a → t.0 ≡ u.0 → m.0 ≡ l.0 → ⊥
not_open xs u l none t m a p q r =
    let up = open_held xs t m a p in
    let zero = subst (λ v. depth xs v m ≡ 0) (same_thread_id (sym q))
    (subst (λ v. depth xs u v ≡ 0) (same_lock_id (sym r)) none) in
    omega arith

module _ (log : List Event) (e : Event) (ord : Orderly (log ++ e ∷ [])) where
  -- a section that is open after the event was so before it, or the event opens it
  each_open : (f : ℕ → ℕ → ℕ)
      → ((t : ThreadId) (l : LockId) (a : ℕ) → Open log t l a → Open (log ++ e ∷ []) t l a
      → f t.0 l.0 ≡ events_of (take a log) t + 1)
      → ((l : LockId) → OpensSection log e.thread l e → f e.thread.0 l.0 ≡ events_of log e.thread + 1)
      → ArePositions (log ++ e ∷ []) f
  each_open f old new t l a p = elim (is_last log e a t (of_does p.opened.does)) [
    | inl lt ↦
        old t l a (open_old log e ord t l a p lt) p
        ∙ sym (ap (λ xs. events_of xs t + 1) (front log e a (omega arith)))
    | inr is ↦
        let th : e.thread ≡ t = last_thread log e a t is (of_does p.opened.does) in
        let taken : take a (log ++ e ∷ []) ≡ log
        = ap (λ n. take n (log ++ e ∷ [])) is ∙ take-append_seam log (e ∷ []) in
        let outer : depth log t l ≡ 0 = subst (λ xs. depth xs t l ≡ 0) taken p.opened.outer in
        subst (λ (v : ThreadId). f v.0 l.0 ≡ events_of log v + 1) th
        (new l (record {
          thread = refl;
          op = last_op log e a t (Acquire l) is p.opened.does;
          outer = subst (λ v. depth log v l ≡ 0) (sym th) outer;
        })) ∙ sym (ap (λ xs. events_of xs t + 1) taken)
  ]

  -- an event that opens no section
  pub positions_same : (f : ℕ → ℕ → ℕ) → ArePositions log f
      → ((l : LockId) → OpensSection log e.thread l e → ⊥) → ArePositions (log ++ e ∷ []) f
  positions_same f was none =
      each_open f (λ t l a p q. was t l a p) (λ l o. absurd (none l o))

  -- one that opens a section
  pub positions_more : (f : ℕ → ℕ → ℕ) (l : LockId) (n : ℕ) → ArePositions log f
      → OpensSection log e.thread l e → n ≡ events_of log e.thread + 1
      → ArePositions (log ++ e ∷ []) (with_row e.thread.0 (with_row l.0 n (f e.thread.0)) f)
  positions_more f l n was is number =
      each_open new
      (λ t m a p q. cell_other e.thread.0 l.0 n f t.0 m.0 (not_open log e.thread l is.outer t m a p)
      ∙ was t m a p) here
    where
      new : ℕ → ℕ → ℕ
      new = with_row e.thread.0 (with_row l.0 n (f e.thread.0)) f

      here : (m : LockId) → OpensSection log e.thread m e → new e.thread.0 m.0 ≡ events_of log e.thread + 1
      here m o =
          let q : Acquire l ≡ Acquire m = sym is.op ∙ o.op in
          let same : l ≡ m = cc in
          subst (λ (y : LockId). new e.thread.0 y.0 ≡ events_of log e.thread + 1) same
          (cell_same e.thread.0 l.0 n f ∙ number)

  -- one that ends a section
  pub positions_less : (f : ℕ → ℕ → ℕ) (l : LockId) → ArePositions log f → EndsSection log e.thread l e
      → ArePositions (log ++ e ∷ []) (with_row e.thread.0 (with_row l.0 0 (f e.thread.0)) f)
  positions_less f l was is =
      each_open (with_row e.thread.0 (with_row l.0 0 (f e.thread.0)) f)
      (λ t m a p q. cell_other e.thread.0 l.0 0 f t.0 m.0
      (not_open (log ++ e ∷ []) e.thread l (depth_down log e l is.op ∙ ap (λ v. v - 1) is.outer) t m a q)
      ∙ was t m a p)
      (λ m o. absurd (let q : Acquire m ≡ Release l = sym o.op ∙ is.op in cc))

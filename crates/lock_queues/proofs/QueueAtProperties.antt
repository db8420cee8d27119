-- What a change of one queue is to the table of queues.
use Rattle.std.proofs.Common.{◌≡◌, ℕ, ◌<◌, true, List, length, get_or, set, sym, ap, subst, ◌∙◌}
use Rattle.std.proofs.lemmas.Bool.{cases_lt, cases_eq}
use Rattle.std.proofs.lemmas.List.{get_or-set_same, get_or-set_other, get_or_past, get_or_read}
use mathlib.Core.Logic.{inl, inr}
use Rattle.event_core.specs.Rows.{with_row}
use Rattle.event_core.proofs.RowsAfterProperties.{row_other}
use Rattle.lock_queues.specs.Slots.{has_slot, opened_in}
use Rattle.lock_queues.specs.Queue.{OneQueue, queue_at, no_queue}
use Rattle.lock_queues.proofs.SlotsProperties.{Whether, entered_has}
use Rattle.hb_clocks.proofs.WithRowProperties.{row_here, row_kept}

-- a lock of which something is so that is not so without a queue has one
pub known : (P : OneQueue → Type 0) (qs : List OneQueue) (l : ℕ) → (P no_queue → ⊥) → P (queue_at qs l)
    → l < length qs
known P qs l none has = elim (cases_lt l (length qs)) [
  | inl lt ↦ lt
  | inr past ↦ absurd (none (subst P (get_or_past qs l no_queue past) has))
]

-- the queue of a lock on which the thread has a slot, as a read gives it
pub record Read (qs : List OneQueue) (t l : ℕ) (q : OneQueue) : Type 0 where
  pub within : l < length qs
  pub is : q ≡ queue_at qs l
  pub has : has_slot (queue_at qs l).slots t ≡ true

-- a lock on which the thread has a slot has a queue, which the read gives
pub read_ready : (qs : List OneQueue) (t l : ℕ) (q : OneQueue) → has_slot (queue_at qs l).slots t ≡ true
    → q ≡ get_or qs l q → Read qs t l q
read_ready qs t l q has e =
    let lt = known (λ (k : OneQueue). has_slot k.slots t ≡ true) qs l (λ none. cc) has in
    record { within = lt; is = get_or_read qs l q lt e no_queue; has = has }

-- a lock on which the thread has an open section has a queue, which the read gives
pub read_entered : (qs : List OneQueue) (t l : ℕ) (q : OneQueue) → 0 < opened_in (queue_at qs l).slots t
    → q ≡ get_or qs l q → Read qs t l q
read_entered qs t l q entered e =
    read_ready qs t l q (entered_has (queue_at qs l).slots t entered) e

-- the queue that was written
pub at_same : (qs : List OneQueue) (l m : ℕ) (q : OneQueue) → l < length qs → m ≡ l
    → queue_at (set qs l q) m ≡ q
at_same qs l m q lt is = ap (queue_at (set qs l q)) is ∙ get_or-set_same qs l q no_queue lt

-- each other queue
pub at_other : (qs : List OneQueue) (l m : ℕ) (q : OneQueue) → (m ≡ l → ⊥)
    → queue_at (set qs l q) m ≡ queue_at qs m
at_other qs l m q away = get_or-set_other qs l m q no_queue away

-- what each queue says, where that at the lock is q
pub lifted : {A : Type 0} (F : OneQueue → A) (qs : List OneQueue) (l : ℕ) (q : OneQueue) → l < length qs
    → (λ m. F (queue_at (set qs l q) m)) ≡ with_row l (F q) (λ m. F (queue_at qs m))
lifted F qs l q lt i m = go (cases_eq m l) i
  where
    go : Whether m l → F (queue_at (set qs l q) m) ≡ with_row l (F q) (λ k. F (queue_at qs k)) m
    go (inl is) = ap F (at_same qs l m q lt is) ∙ sym (row_here l (F q) (λ k. F (queue_at qs k)) m is)
    go (inr away) = ap F (at_other qs l m q away) ∙ sym (row_other l (F q) (λ k. F (queue_at qs k)) m away)

-- it is the same, where q says what was said
pub lifted_same : {A : Type 0} (F : OneQueue → A) (qs : List OneQueue) (l : ℕ) (q : OneQueue) → l < length qs
    → F q ≡ F (queue_at qs l) → ◌≡◌ {A = ℕ → A} (λ m. F (queue_at (set qs l q) m)) (λ m. F (queue_at qs m))
lifted_same F qs l q lt e = lifted F qs l q lt ∙ row_kept l (F q) (λ m. F (queue_at qs m)) (sym e)

-- and has x in one cell more, where q says it of one thread
pub lifted_cell : {A : Type 0} (F : OneQueue → ℕ → A) (qs : List OneQueue) (t l : ℕ) (q : OneQueue) (x : A)
    → l < length qs → F q ≡ with_row t x (F (queue_at qs l))
    → (λ u m. F (queue_at (set qs l q) m) u)
    ≡ with_row t (with_row l x (λ k. F (queue_at qs k) t)) (λ u k. F (queue_at qs k) u)
lifted_cell {A = A} F qs t l q x lt e i u = go (cases_eq u t) i
  where
    was : ℕ → ℕ → A
    was v k = F (queue_at qs k) v

    mine : ℕ → A
    mine = with_row l x (was t)

    go : Whether u t → (λ m. F (queue_at (set qs l q) m) u) ≡ with_row t mine was u
    go (inl own) =
        lifted (λ (k : OneQueue). F k u) qs l q lt
        ∙ ap (λ y. with_row l y (was u)) (ap (λ (f : ℕ → A). f u) e ∙ row_here t x (F (queue_at qs l)) u own)
        ∙ ap (λ v. with_row l x (was v)) own ∙ sym (row_here t mine was u own)
    go (inr other) =
        lifted_same (λ (k : OneQueue). F k u) qs l q lt
        (ap (λ (f : ℕ → A). f u) e ∙ row_other t x (F (queue_at qs l)) u other)
        ∙ sym (row_other t mine was u other)

-- The clock of an event, for a relation and what its thread and its operation bring to it.
use Rattle.std.proofs.Common.{◌≡◌, ℕ, ◌<◌, ◌≤◌, ◌+◌, List, [], ◌∷◌, ◌++◌, Bool, length, sym, ap, subst, ◌∙◌}
use Rattle.std.proofs.Common.{arith, cond, ◌⊎◌}
use Rattle.std.proofs.lemmas.Bool.{cond-true, eq-eqb}
use Rattle.std.proofs.lemmas.Option.{slice_get_within}
use Rattle.event_core.proofs.Words.{ThreadId, LockId, Event, Acquire, Fork, Join}
use Rattle.event_core.specs.Log.{Does, Of, depth}
use Rattle.event_core.specs.Count.{events_of, Past}
use Rattle.event_core.specs.Orderly.{Orderly}
use Rattle.event_core.specs.Effect.{Effect, Opens, Joins}
use Rattle.event_core.specs.Rows.{join, brought, clock_after, Rows, Counted}
use Rattle.event_core.proofs.EffectProperties.{Fits, effect_at}
use Rattle.event_core.proofs.CountsProperties.{counts_same, counts_none, counts_all, counts_at_most}
use Rattle.event_core.proofs.CountedProperties.{counted_none, counted_join, counted_bump, nat_eq_same}
use Rattle.event_core.proofs.CountedProperties.{last_as, grown_length}

-- what a join or an outer acquire brings, where L is what each lock has
abbrev pub Brings : List Event → (ℕ → ℕ → Type 0) → (LockId → ℕ → Type 0) → Effect → ℕ → Type 0
Brings log R L (Joins u) i = Past log R u i
Brings log R L (Opens l) i = L l i
Brings log R L _ i = ⊥

module _ (log : List Event) (e : Event) (R : ℕ → ℕ → Type 0) (L : LockId → ℕ → Type 0) where
  -- a join brings the past of the joined thread
  pub join_brings : (u : ThreadId) (i : ℕ) (k : Effect) → Fits log e k → e.op ≡ Join u → Past log R u i
      → Brings log R L k i
  join_brings u i k f a p = subst (λ j. Brings log R L j i) (sym (effect_at log e k (Join u) f a)) p

  -- an outer acquire brings the past of the lock
  pub acquire_brings : (l : LockId) (i : ℕ) (k : Effect) → Fits log e k → e.op ≡ Acquire l
      → depth log e.thread l ≡ 0 → L l i → Brings log R L k i
  acquire_brings l i k f a z p =
      subst (λ j. Brings log R L j i)
      (sym (effect_at log e k (Acquire l) f a ∙ cond-true _ _ _ (eq-eqb _ 0 z))) p

module _ (log : List Event) (R : ℕ → ℕ → Type 0) (L : LockId → ℕ → Type 0) (r : Rows)
    (threads : (t : ThreadId) → Counted log (Past log R t) (r.thread t.0))
    (locks : (l : LockId) → Counted log (L l) (r.lock l.0)) where
  -- the clock that is brought counts what the event brings
  pub counted_brings : (k : Effect) → Counted log (Brings log R L k) (brought k r)
  counted_brings (Joins u) = threads u
  counted_brings (Opens l) = locks l
  counted_brings _ = counted_none log (λ i. ⊥) (λ i b. b)

module _ (log : List Event) (R : ℕ → ℕ → Type 0) (L : LockId → ℕ → Type 0) (r : Rows)
    (threads : (t : ThreadId) → Counted log (Past log R t) (r.thread t.0))
    (locks : (l : LockId) → Counted log (L l) (r.lock l.0))
    (own : (t : ThreadId) → r.thread t.0 t.0 ≡ events_of log t) where
  -- no clock brings more of a thread's events than there are
  own_number : (t : ThreadId) (k : Effect) → join (r.thread t.0) (brought k r) t.0 ≡ events_of log t
  own_number t k =
      let a : r.thread t.0 t.0 ≡ events_of log t = own t in
      let b : brought k r t.0 ≤ events_of log t = (counted_brings log R L r threads locks k t).within in
      omega arith

  -- the event's clock counts all events of its own thread, itself too
  pub own_row : (t : ThreadId) (k : Effect) → clock_after t k r t.0 ≡ events_of log t + 1
  own_row t k =
      let old : ℕ = join (r.thread t.0) (brought k r) t.0 in
      ap (λ (b : Bool). cond b (old + 1) old) (nat_eq_same t.0) ∙ ap (λ n. n + 1) (own_number t k)

  module _ (e : Event) (k : Effect) (Q : ℕ → ℕ → Type 0) (own_past : (i : ℕ) → R i i)
      (itself : Q (length log) (length log))
      (to : (i : ℕ) → i < length log → Q i (length log) → Past log R e.thread i ⊎ Brings log R L k i)
      (from : (i : ℕ) → Past log R e.thread i ⊎ Brings log R L k i → Q i (length log)) where
    -- the event's clock counts what is below it
    pub clock_counted : Counted (log ++ e ∷ []) (λ i. Q i (length log)) (clock_after e.thread k r)
    clock_counted =
        counted_bump log e (λ i. Past log R e.thread i ⊎ Brings log R L k i) (λ i. Q i (length log))
        (join (r.thread e.thread.0) (brought k r)) from to itself (own_number e.thread k)
        (counted_join log (Past log R e.thread) (Brings log R L k) (r.thread e.thread.0) (brought k r)
        (threads e.thread) (counted_brings log R L r threads locks k))

    -- of a thread that is forked now there is no event
    pub forked_none : Orderly (log ++ e ∷ []) → (t : ThreadId) → e.op ≡ Fork t
        → clock_after e.thread k r t.0 ≡ events_of (log ++ e ∷ []) t
    forked_none ord t o =
        let d = last_as log e o in
        let le : clock_after e.thread k r t.0 ≤ events_of (log ++ e ∷ []) t = (clock_counted t).within in
        let z : events_of (log ++ e ∷ []) t ≤ 0 =
        counts_at_most (log ++ e ∷ []) t (λ i. Of (log ++ e ∷ []) i t) (events_of (log ++ e ∷ []) t) 0
        (counts_all (log ++ e ∷ []) t)
        (counts_same (log ++ e ∷ []) t (λ i. ⊥) (λ i. Of (log ++ e ∷ []) i t) 0
        (λ i o. (λ b. absurd b, λ p. none d i p)) (counts_none (log ++ e ∷ []) t)) in
        omega arith
      where
        none : Does (log ++ e ∷ []) (length log) e.thread (Fork t) → (i : ℕ) → Of (log ++ e ∷ []) i t → ⊥
        none d i p =
            let lt : length log < i = ord.fork_first (length log) i t e.thread d p in
            let in_log : i < length (log ++ e ∷ []) = slice_get_within (log ++ e ∷ []) i p.event p.at in
            let g : length (log ++ e ∷ []) ≡ length log + 1 = grown_length log e in
            omega arith

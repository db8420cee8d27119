-- The lists of held locks: no lock stands twice in one, and none is longer than there are locks.
use Rattle.std.proofs.Common.{◌≡◌, ℕ, ◌<◌, ◌≤◌, List, [], ◌∷◌, ◌++◌, length, Bool, true, false, cond, nat_eq}
use Rattle.std.proofs.Common.{refl, sym, ap, subst, ◌∙◌, inl, inr, ◌⊎◌, arith}
use Rattle.std.specs.List.{IsDistinct, AllByRecursion, list_any}
use Rattle.std.proofs.lemmas.Bool.{cases_eq, eqb-true}
use Rattle.std.proofs.lemmas.Map.Steps.{length-le_from_distinct_below}
use Rattle.event_core.specs.declared.bounds.Limits.{Limits}
use Rattle.event_core.specs.declared.events.Event.{Event}
use Rattle.event_core.specs.declared.ids.LockId.{LockId}
use Rattle.event_core.specs.declared.ids.ThreadId.{ThreadId}
use Rattle.event_core.specs.Closed.{Has, first, later}
use Rattle.event_core.specs.Log.{depth}
use Rattle.event_core.specs.Refusal.{WellFormed}
use Rattle.event_core.specs.Rows.{with_row}
use Rattle.event_core.specs.Effect.{Effect, Opens, Closes}
use Rattle.event_core.proofs.CountedProperties.{nat_eq_other}
use Rattle.event_core.proofs.RowsAfterProperties.{row_same, row_other}
use Rattle.event_core.proofs.HolderLaw.{lock_within}
use Rattle.event_core.proofs.HasProperties.{any_has}
use Rattle.event_core.proofs.EffectProperties.{Fits, opens}
use Rattle.wcp_laws.specs.State.{State}
use Rattle.wcp_laws.specs.Standing.{StandsFor as StateStandsFor}
use Rattle.wcp_laws.specs.Step.{effect, after, held_after, without}
use Rattle.wcp_laws.proofs.Clocks.{effect_fits}
use Rattle.wcp_clocks.specs.Parts.{state_of, Parts}
use Rattle.wcp_clocks.specs.Standing.{AreDistinct, StandsFor}

-- a property of all but one number of a list
all_without : (P : ℕ → Type 0) (n : ℕ) (xs : List ℕ) → AllByRecursion P xs → AllByRecursion P (without n xs)
all_without P n [] all = tt
all_without P n (m ∷ ms) all = go (nat_eq m n) (all_without P n ms all.1)
  where
    go : (b : Bool) → AllByRecursion P (without n ms)
        → AllByRecursion P (cond b (without n ms) (m ∷ without n ms))
    go true rest = rest
    go false rest = (all.0, rest)

distinct_without : (n : ℕ) (xs : List ℕ) → IsDistinct nat_eq xs → IsDistinct nat_eq (without n xs)
unfolding IsDistinct
distinct_without n [] d = tt
distinct_without n (m ∷ ms) d = go (nat_eq m n) (distinct_without n ms d.1)
  where
    go : (b : Bool) → IsDistinct nat_eq (without n ms)
        → IsDistinct nat_eq (cond b (without n ms) (m ∷ without n ms))
    go true rest = rest
    go false rest = (all_without (λ y. nat_eq m y ≡ false) n ms d.0, rest)

-- a property of one number more
all_more : (P : ℕ → Type 0) (xs : List ℕ) (n : ℕ) → AllByRecursion P xs → P n
    → AllByRecursion P (xs ++ n ∷ [])
all_more P [] n all last = (last, tt)
all_more P (m ∷ ms) n all last = (all.0, all_more P ms n all.1 last)

-- a lock joins a list that does not have it
distinct_more : (xs : List ℕ) (n : ℕ) → IsDistinct nat_eq xs → (Has n xs → ⊥)
    → IsDistinct nat_eq (xs ++ n ∷ [])
unfolding IsDistinct
distinct_more [] n d new = (tt, tt)
distinct_more (m ∷ ms) n d new = (
  all_more (λ y. nat_eq m y ≡ false) ms n d.0 (nat_eq_other m n (λ e. new (first m ms (sym e)))),
  distinct_more ms n d.1 (λ h. new (later m ms h)),
)

-- a row that is written is distinct where the new list is
distinct_row : (t : ℕ) (xs : List ℕ) (h : ℕ → List ℕ) → AreDistinct h → IsDistinct nat_eq xs
    → AreDistinct (with_row t xs h)
distinct_row t xs h was is u = go (cases_eq u.0 t)
  where
    go : (u.0 ≡ t) ⊎ (u.0 ≡ t → ⊥) → IsDistinct nat_eq (with_row t xs h u.0)
    go (inl same) =
        subst (IsDistinct nat_eq) (sym (ap (with_row t xs h) same ∙ row_same t xs h)) is
    go (inr other) = subst (IsDistinct nat_eq) (sym (row_other t xs h u.0 other)) (was u)

distinct_after : (t : ThreadId) (k : Effect) (h : ℕ → List ℕ)
    → ((l : LockId) → k ≡ Opens l → Has l.0 (h t.0) → ⊥) → AreDistinct h
    → AreDistinct (held_after t.0 k h)
distinct_after t (Opens l) h new was =
    distinct_row t.0 (h t.0 ++ l.0 ∷ []) h was (distinct_more (h t.0) l.0 (was t) (new l refl))
distinct_after t (Closes l) h new was =
    distinct_row t.0 (without l.0 (h t.0)) h was (distinct_without l.0 (h t.0) (was t))
distinct_after t _ h new was = was

-- a lock that is opened was not held
opened_anew : (log : List Event) (e : Event) (k : Effect) → Fits log e k → (l : LockId) → k ≡ Opens l
    → depth log e.thread l ≡ 0
opened_anew log e _ (opens m o zero) l is =
    let same : m ≡ l = cc in subst (λ (n : LockId). depth log e.thread n ≡ 0) same zero
opened_anew log e _ _ l is = cc

-- after a step each lock is still at most once in a list
pub distinct_step : (log : List Event) (e : Event) (s : State) → StateStandsFor log s → AreDistinct s.held
    → AreDistinct (after e s).held
distinct_step log e s st was =
    distinct_after e.thread (effect e s) s.held new was
  where
    new : (l : LockId) → effect e s ≡ Opens l → Has l.0 (s.held e.thread.0) → ⊥
    new l is has =
        let up : 0 < depth log e.thread l = (st.held e.thread l).0 has in
        let none : depth log e.thread l ≡ 0
        = opened_anew log e (effect e s) (effect_fits log e s st) l is in
        omega arith

-- a thread holds no more locks than there may be
pub held_within : (limits : Limits) (log : List Event) (p : Parts) (t : ThreadId)
    → WellFormed limits log → StandsFor log p → length ((state_of p).held t.0) ≤ limits.locks
held_within limits log p t w st =
    length-le_from_distinct_below ((state_of p).held t.0) limits.locks (st.distinct t) below
  where
    below : (q : ℕ) → list_any (nat_eq q) ((state_of p).held t.0) ≡ true → q < limits.locks
    below q is =
        let member = any_has (nat_eq q) ((state_of p).held t.0) is in
        let same : q ≡ member.0 = eqb-true q member.0 member.2 in
        let lock : LockId = record { 0 = q } in
        let has : Has q ((state_of p).held t.0)
        = subst (λ n. Has n ((state_of p).held t.0)) (sym same) member.1 in
        lock_within limits log t lock w ((st.strict.held t lock).0 has)

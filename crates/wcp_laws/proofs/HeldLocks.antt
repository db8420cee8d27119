-- The locks that a thread holds, after an event.
use Rattle.std.proofs.Common.{◌≡◌, ℕ, ◌<◌, ◌-◌, List, [], ◌∷◌, ◌++◌, Bool, cond, sym, ap, subst, ◌∙◌, arith}
use Rattle.std.proofs.Common.{◌⊎◌, ◌↔◌}
use Rattle.std.proofs.lemmas.Bool.{cases_eq, eq-eqb}
use mathlib.Core.Logic.{inl, inr}
use Rattle.event_core.specs.declared.events.Event.{Event}
use Rattle.event_core.specs.declared.ids.LockId.{LockId}
use Rattle.event_core.specs.declared.ids.ThreadId.{ThreadId}
use Rattle.event_core.specs.Closed.{Has, first, later}
use Rattle.event_core.specs.Log.{depth}
use Rattle.event_core.specs.Orderly.{Orderly}
use Rattle.event_core.specs.Rows.{with_row}
use Rattle.event_core.specs.Effect.{Effect, Accesses, Opens, Closes, Forks, Joins, Inner}
use Rattle.event_core.proofs.CountedProperties.{nat_eq_other}
use Rattle.event_core.proofs.DepthProperties.{same_lock_id, same_thread_id, thread_cases, lock_cases}
use Rattle.event_core.proofs.RowsAfterProperties.{row_same, row_other}
use Rattle.event_core.proofs.HasProperties.{none_in, has_front, has_last, has_split}
use Rattle.event_core.proofs.EffectProperties.{Fits, accesses, opens, closes, forks, joins, again, inner}
use Rattle.event_core.proofs.EffectProperties.{depth_up, depth_down}
use Rattle.wcp_laws.specs.Step.{held_after, without}
use Rattle.event_core.proofs.HeldDepths.{held_same}

-- the members of a list without one
without_has : {l : ℕ} (n : ℕ) (xs : List ℕ) → Has l (without n xs) → Has l xs × (l ≡ n → ⊥)
without_has n [] h = absurd (none_in h)
without_has {l = l} n (b ∷ bs) h = go (cases_eq b n) (λ g. without_has n bs g)
  where
    go : (b ≡ n) ⊎ (b ≡ n → ⊥) → (Has l (without n bs) → Has l bs × (l ≡ n → ⊥))
        → Has l (b ∷ bs) × (l ≡ n → ⊥)
    go (inl e) rest =
        let p = rest
        (subst (λ (c : Bool). Has l (cond c (without n bs) (b ∷ without n bs))) (eq-eqb b n e) h) in
        (later b bs p.0, p.1)
    go (inr ne) rest =
        by (subst (λ (c : Bool). Has l (cond c (without n bs) (b ∷ without n bs))) (nat_eq_other b n ne) h)
      where
        by : Has l (b ∷ without n bs) → Has l (b ∷ bs) × (l ≡ n → ⊥)
        by (first _ _ e) = (first b bs e, λ q. ne (sym e ∙ q))
        by (later _ _ g) = let p = rest g in (later b bs p.0, p.1)

has_without : {l : ℕ} (n : ℕ) (xs : List ℕ) → Has l xs → (l ≡ n → ⊥) → Has l (without n xs)
has_without n [] h ne = absurd (none_in h)
has_without {l = l} n (b ∷ bs) h ne = go (cases_eq b n) (λ g. has_without n bs g ne)
  where
    go : (b ≡ n) ⊎ (b ≡ n → ⊥) → (Has l bs → Has l (without n bs)) → Has l (without n (b ∷ bs))
    go (inl e) tail =
        subst (λ (c : Bool). Has l (cond c (without n bs) (b ∷ without n bs))) (sym (eq-eqb b n e)) (by h)
      where
        by : Has l (b ∷ bs) → Has l (without n bs)
        by (first _ _ q) = absurd (ne (q ∙ e))
        by (later _ _ g) = tail g
    go (inr nb) tail =
        subst (λ (c : Bool). Has l (cond c (without n bs) (b ∷ without n bs))) (sym (nat_eq_other b n nb))
        (by h)
      where
        by : Has l (b ∷ bs) → Has l (b ∷ without n bs)
        by (first _ _ q) = first b (without n bs) q
        by (later _ _ g) = later b (without n bs) (tail g)

module _ (log : List Event) (e : Event) (ord : Orderly (log ++ e ∷ [])) where
  -- the list has the locks that the thread holds
  pub held_stand : (k : Effect) → Fits log e k → (h : ℕ → List ℕ)
      → ((t : ThreadId) (l : LockId) → Has l.0 (h t.0) ↔ (0 < depth log t l))
      → (t : ThreadId) (l : LockId)
      → Has l.0 (held_after e.thread.0 k h t.0) ↔ (0 < depth (log ++ e ∷ []) t l)
  held_stand k fit h was t l = go k fit
    where
      Goal : List ℕ → Type 0
      Goal xs = Has l.0 xs ↔ (0 < depth (log ++ e ∷ []) t l)

      kept : (k : Effect) → Fits log e k → (e.thread ≡ t → k ≡ Opens l → ⊥)
          → (e.thread ≡ t → k ≡ Closes l → ⊥) → Goal (h t.0)
      kept k f uo uc =
          let s = held_same log e ord k f t l uo uc in let p = was t l in
          (λ x. s.1 (p.0 x), λ x. p.1 (s.0 x))

      go : (k : Effect) → Fits log e k → Goal (held_after e.thread.0 k h t.0)
      go _ (accesses x j o) = kept (Accesses x j) (accesses x j o) (λ p q. cc) (λ p q. cc)
      go _ (forks u o) = kept (Forks u) (forks u o) (λ p q. cc) (λ p q. cc)
      go _ (joins u o) = kept (Joins u) (joins u o) (λ p q. cc) (λ p q. cc)
      go _ (again n o d) = kept Inner (again n o d) (λ p q. cc) (λ p q. cc)
      go _ (inner n o d) = kept Inner (inner n o d) (λ p q. cc) (λ p q. cc)
      go _ (opens n o d) = by (thread_cases e.thread t) (lock_cases n l)
        where
          by : (e.thread ≡ t) ⊎ (e.thread ≡ t → ⊥) → (n ≡ l) ⊎ (n ≡ l → ⊥)
              → Goal (with_row e.thread.0 (h e.thread.0 ++ n.0 ∷ []) h t.0)
          by (inr other) q =
              subst Goal (sym (row_other e.thread.0 (h e.thread.0 ++ n.0 ∷ []) h t.0
              (λ p. other (same_thread_id (sym p)))))
              (kept (Opens n) (opens n o d) (λ p r. other p) (λ p r. other p))
          by (inl same) q =
              subst (λ (v : ThreadId). Has l.0 (with_row e.thread.0 (h e.thread.0 ++ n.0 ∷ []) h v.0)
              ↔ (0 < depth (log ++ e ∷ []) v l)) same
              (subst (λ xs. Has l.0 xs ↔ (0 < depth (log ++ e ∷ []) e.thread l))
              (sym (row_same e.thread.0 (h e.thread.0 ++ n.0 ∷ []) h)) (at q))
            where
              at : (n ≡ l) ⊎ (n ≡ l → ⊥)
                  → Has l.0 (h e.thread.0 ++ n.0 ∷ []) ↔ (0 < depth (log ++ e ∷ []) e.thread l)
              at (inl is) =
                  let up : 0 < depth (log ++ e ∷ []) e.thread n
                  = (let u = depth_up log e n ord o in omega arith) in (
                    λ x. subst (λ (y : LockId). 0 < depth (log ++ e ∷ []) e.thread y) is up,
                    λ x. subst (λ (y : LockId). Has y.0 (h e.thread.0 ++ n.0 ∷ [])) is
                        (has_last (h e.thread.0) n.0),
                  )
              at (inr ne) =
                  let s = held_same log e ord (Opens n) (opens n o d) e.thread l (λ p r. ne cc)
                  (λ p r. cc) in (
                    λ x. s.1 ((was e.thread l).0 (drop (has_split l.0 (h e.thread.0) n.0 x))),
                    λ x. has_front l.0 (h e.thread.0) (n.0 ∷ []) ((was e.thread l).1 (s.0 x)),
                  )
                where
                  drop : Has l.0 (h e.thread.0) ⊎ (l.0 ≡ n.0) → Has l.0 (h e.thread.0)
                  drop (inl g) = g
                  drop (inr r) = absurd (ne (same_lock_id (sym r)))
      go _ (closes n o d) = by (thread_cases e.thread t) (lock_cases n l)
        where
          by : (e.thread ≡ t) ⊎ (e.thread ≡ t → ⊥) → (n ≡ l) ⊎ (n ≡ l → ⊥)
              → Goal (with_row e.thread.0 (without n.0 (h e.thread.0)) h t.0)
          by (inr other) q =
              subst Goal (sym (row_other e.thread.0 (without n.0 (h e.thread.0)) h t.0
              (λ p. other (same_thread_id (sym p)))))
              (kept (Closes n) (closes n o d) (λ p r. other p) (λ p r. other p))
          by (inl same) q =
              subst (λ (v : ThreadId). Has l.0 (with_row e.thread.0 (without n.0 (h e.thread.0)) h v.0)
              ↔ (0 < depth (log ++ e ∷ []) v l)) same
              (subst (λ xs. Has l.0 xs ↔ (0 < depth (log ++ e ∷ []) e.thread l))
              (sym (row_same e.thread.0 (without n.0 (h e.thread.0)) h)) (at q))
            where
              at : (n ≡ l) ⊎ (n ≡ l → ⊥)
                  → Has l.0 (without n.0 (h e.thread.0)) ↔ (0 < depth (log ++ e ∷ []) e.thread l)
              at (inl is) =
                  let down : depth (log ++ e ∷ []) e.thread n ≡ 0
                  = depth_down log e n o ∙ ap (λ x. x - 1) d in
                  let zero_at : depth (log ++ e ∷ []) e.thread l ≡ 0
                  = subst (λ (y : LockId). depth (log ++ e ∷ []) e.thread y ≡ 0) is down in (
                    λ x. absurd ((without_has n.0 (h e.thread.0) x).1 (ap (λ (y : LockId). y.0) (sym is))),
                    λ x. absurd (omega arith),
                  )
              at (inr ne) =
                  let s = held_same log e ord (Closes n) (closes n o d) e.thread l (λ p r. cc)
                  (λ p r. ne cc) in (
                    λ x. s.1 ((was e.thread l).0 (without_has n.0 (h e.thread.0) x).0),
                    λ x. has_without n.0 (h e.thread.0) ((was e.thread l).1 (s.0 x))
                        (λ r. ne (same_lock_id (sym r))),
                  )

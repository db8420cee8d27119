-- What is kept for rule (a) of other threads' closed sections, after an event.
use Rattle.std.proofs.Common.{◌≡◌, ℕ, ◌<◌, List, [], ◌∷◌, ◌++◌, Bool, true, false, not, ◌&&◌, cond}
use Rattle.std.proofs.Common.{length, sym, subst, ◌⊎◌, ◌↔◌, nat_eq}
use Rattle.std.proofs.lemmas.Bool.{cases_Bool}
use Rattle.std.specs.Prelude.{IsTrue}
use mathlib.Core.Logic.{inl, inr}
use Rattle.event_core.specs.declared.events.AccessKind.{AccessKind}
use Rattle.event_core.specs.declared.events.Event.{Event}
use Rattle.event_core.specs.declared.ids.LockId.{LockId}
use Rattle.event_core.specs.declared.ids.ThreadId.{ThreadId}
use Rattle.event_core.specs.declared.ids.VarId.{VarId}
use Rattle.event_core.specs.Closed.{Others, OtherSection}
use Rattle.event_core.specs.Order.{Hb}
use Rattle.event_core.specs.Orderly.{Orderly}
use Rattle.event_core.specs.Rows.{join, Counted}
use Rattle.event_core.specs.Effect.{Effect, Accesses, Opens, Closes, Forks, Joins, Inner}
use Rattle.event_core.proofs.CountedProperties.{counted_join, counted_same, counted_longer}
use Rattle.event_core.proofs.RelationsStay.{longer, back, hb_too}
use Rattle.event_core.proofs.EffectProperties.{Fits, accesses, opens, closes, forks, joins, again, inner}
use Rattle.event_core.proofs.EffectProperties.{last_closes}
use Rattle.event_core.proofs.OpenSections.{is_closes}
use Rattle.event_core.proofs.OtherSections.{Leaves, leaves_test, other_of, others_by}
use Rattle.event_core.proofs.OtherSections.{other_old, other_new, other_split}
use Rattle.event_core.proofs.ClosedProperties.{section_within, before_within}
use Rattle.event_core.proofs.BoolProperties.{not_both}
use Rattle.wcp_laws.specs.Standing.{StandsFor}
use Rattle.wcp_laws.specs.State.{State}
use Rattle.wcp_laws.specs.Step.{met_clock_after}

module _ (log : List Event) (e : Event) (ord : Orderly (log ++ e ∷ [])) where
  -- what was kept is kept
  others_old : (l : LockId) (x : VarId) (k : AccessKind) (t : ThreadId) (i : ℕ) → Others log l x k t i
      → Others (log ++ e ∷ []) l x k t i
  others_old l x k t i q =
      others_by (other_old log e l x k t q.release (other_of q))
      (hb_too (longer log (e ∷ [])) (section_within q.section) q.below)

  -- and nothing else but what is below the end of a section that the event ends
  others_split : (l : LockId) (x : VarId) (k : AccessKind) (t : ThreadId) (i : ℕ)
      → Others (log ++ e ∷ []) l x k t i
      → Others log l x k t i ⊎ (Leaves log e l x k t × Hb (log ++ e ∷ []) i (length log))
  others_split l x k t i q = go (other_split log e ord l x k t q.release (other_of q))
    where
      go : OtherSection log l x k t q.release ⊎ ((q.release ≡ length log) × Leaves log e l x k t)
          → Others log l x k t i ⊎ (Leaves log e l x k t × Hb (log ++ e ∷ []) i (length log))
      go (inl o) = inl (others_by o (hb_too (back (longer log (e ∷ []))) (section_within o.section) q.below))
      go (inr o) = inr (o.1, subst (λ n. Hb (log ++ e ∷ []) i n) o.0 q.below)

  -- the tables of other threads' sections count them
  pub others_stand : (k : Effect) → Fits log e k → (g : ℕ → ℕ)
      → Counted (log ++ e ∷ []) (λ i. Hb (log ++ e ∷ []) i (length log)) g → (s : State) → StandsFor log s
      → (l : LockId) (x : VarId) (j : AccessKind) (t : ThreadId)
      → Counted (log ++ e ∷ []) (Others (log ++ e ∷ []) l x j t)
      (met_clock_after e.thread.0 k g s l.0 x.0 j t.0)
  others_stand k fit g is s st l x j t = go k fit
    where
      was : ℕ → ℕ
      was = s.met_clock l.0 x.0 j t.0

      Goal : (ℕ → ℕ) → Type 0
      Goal = Counted (log ++ e ∷ []) (Others (log ++ e ∷ []) l x j t)

      kept : (Leaves log e l x j t → ⊥) → Goal was
      kept none =
          counted_longer log e (Others log l x j t) (Others (log ++ e ∷ []) l x j t) was
          (λ i p. others_old l x j t i p)
          (λ i lt p. elim (others_split l x j t i p) [ inl q ↦ q | inr q ↦ absurd (none q.0) ])
          (λ i p. elim (others_split l x j t i p)
          [ inl q ↦ before_within q.section q.below | inr q ↦ absurd (none q.0) ])
          (st.others l x j t)

      -- what was kept, of the old log and of the new
      Kept : ℕ → Type 0
      Kept i = Others (log ++ e ∷ []) l x j t i × (i < length log) × Others log l x j t i

      grown : Leaves log e l x j t → Goal (join was g)
      grown leaves =
          counted_same (log ++ e ∷ [])
          (λ i. Kept i ⊎ Hb (log ++ e ∷ []) i (length log)) (Others (log ++ e ∷ []) l x j t) (join was g)
          (λ i p. elim p [ inl q ↦ q.0 | inr h ↦ others_by (other_new log e ord l x j t leaves) h ])
          (λ i p. elim (others_split l x j t i p)
          [ inl q ↦ inl (p, before_within q.section q.below, q) | inr q ↦ inr q.1 ])
          (counted_join (log ++ e ∷ []) Kept (λ i. Hb (log ++ e ∷ []) i (length log)) was g
          (counted_longer log e (Others log l x j t) Kept was
          (λ i p. (others_old l x j t i p, before_within p.section p.below, p)) (λ i lt p. p.2) (λ i p. p.1)
          (st.others l x j t)) is)

      no_close : (k : Effect) → Fits log e k → ((l : LockId) → k ≡ Closes l → ⊥) → Goal was
      no_close k f none = kept (λ q. none l (is_closes log e ord k f l q.closes))

      go : (k : Effect) → Fits log e k → Goal (met_clock_after e.thread.0 k g s l.0 x.0 j t.0)
      go _ (accesses y i o) = no_close (Accesses y i) (accesses y i o) (λ l q. cc)
      go _ (opens n o d) = no_close (Opens n) (opens n o d) (λ l q. cc)
      go _ (forks u o) = no_close (Forks u) (forks u o) (λ l q. cc)
      go _ (joins u o) = no_close (Joins u) (joins u o) (λ l q. cc)
      go _ (again n o d) = no_close Inner (again n o d) (λ l q. cc)
      go _ (inner n o d) = no_close Inner (inner n o d) (λ l q. cc)
      go _ (closes n o d) = by (cases_Bool test)
        where
          test : Bool
          test = nat_eq l.0 n.0 && (not (nat_eq t.0 e.thread.0) && s.noted e.thread.0 l.0 x.0 j)

          leaves : IsTrue test ↔ Leaves log e l x j t
          leaves =
              leaves_test log e ord n (last_closes log e n o d) l x j t (s.noted e.thread.0 l.0 x.0 j)
              (st.noted e.thread l x j)

          by : (test ≡ true) ⊎ (test ≡ false) → Goal (cond test (join was g) was)
          by (inl h) = subst (λ c. Goal (cond c (join was g) was)) (sym h) (grown (leaves.0 h))
          by (inr h) =
              subst (λ c. Goal (cond c (join was g) was)) (sym h) (kept (λ q. not_both (leaves.1 q) h))

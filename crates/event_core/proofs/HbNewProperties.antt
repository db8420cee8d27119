-- What happens before the event that a log grows by.
use Rattle.std.proofs.Common.{◌≡◌, ℕ, List, [], ◌∷◌, ◌++◌, length, refl, sym, subst, inl, inr}
use Rattle.std.proofs.Math.Seq.{take-append_seam}
use Rattle.std.proofs.lemmas.Option.{slice_get_within}
use Rattle.event_core.proofs.Words.{Event, Fork}
use Rattle.event_core.specs.Log.{Does, Of, depth}
use Rattle.event_core.specs.Newest.{HbNew, itself, by_thread, by_join, by_lock}
use Rattle.event_core.specs.Order.{here, step, ProgramEdge, same_thread, fork_to_event, fork_to_join}
use Rattle.event_core.specs.Order.{event_to_join, HbEdge, program, lock, Hb}
use Rattle.event_core.proofs.CountedProperties.{last_of, last_does, last_as}
use Rattle.event_core.proofs.EffectProperties.{last_opens}
use Rattle.event_core.proofs.LogProperties.{does_op, of_does, of_one}
use Rattle.event_core.proofs.PastProperties.{source_within}
use Rattle.event_core.proofs.RelationsStay.{Agree, longer, back, of, does, releases_it, hb_too}

-- what happens before the new event, in the sets of the log before it
pub hb_new : (log : List Event) (e : Event) (i : ℕ) → Hb (log ++ e ∷ []) i (length log) → HbNew log e i
hb_new log e i h = go (length log) h refl
  where
    a : Agree (length log) (log ++ e ∷ []) log
    a = back (longer log (e ∷ []))

    edge : (g : ℕ) → Hb (log ++ e ∷ []) i g → HbEdge (log ++ e ∷ []) g (length log) → HbNew log e i
    edge g c (program (same_thread u lt x y)) =
        by_thread (g, inl (subst (λ t. Of log g t) (of_one y (last_of log e)) (of a lt x)), hb_too a lt c)
    edge g c (program (fork_to_event u v lt x y)) =
        by_thread (
          g,
          inr (v, subst (λ t. Does log g v (Fork t)) (of_one y (last_of log e)) (does a lt x)),
          hb_too a lt c,
        )
    edge g c (program (fork_to_join u v t lt x y)) =
        by_join u (does_op (last_does log e) y) (g, inr (v, does a lt x), hb_too a lt c)
    edge g c (program (event_to_join u t lt x y)) =
        by_join u (does_op (last_does log e) y) (g, inl (of a lt x), hb_too a lt c)
    edge g c (lock u v l lt x y) =
        by_lock l (does_op (last_does log e) y.does)
        (subst (λ t. depth log t l ≡ 0) (of_one (of_does y.does) (last_of log e))
        (subst (λ xs. depth xs v l ≡ 0) (take-append_seam log (e ∷ [])) y.outer))
        (g, (u, releases_it a lt x), hb_too a lt c)

    go : (j : ℕ) → Hb (log ++ e ∷ []) i j → j ≡ length log → HbNew log e i
    go j here is = itself is
    go j (step {g = g} c d) is = edge g c (subst (λ n. HbEdge (log ++ e ∷ []) g n) is d)

-- each of the sets of `HbNew` happens before the new event
pub new_hb : (log : List Event) (e : Event) (i : ℕ) → HbNew log e i → Hb (log ++ e ∷ []) i (length log)
new_hb log e i n = go n
  where
    a : Agree (length log) log (log ++ e ∷ [])
    a = longer log (e ∷ [])

    go : HbNew log e i → Hb (log ++ e ∷ []) i (length log)
    go (itself is) = subst (λ x. Hb (log ++ e ∷ []) x (length log)) (sym is) here
    go (by_thread p) =
        let lt = source_within log e.thread p.0 p.1 in
        let d : ProgramEdge (log ++ e ∷ []) p.0 (length log) = elim p.1 [
          | inl o ↦ same_thread e.thread lt (of a lt o) (last_of log e)
          | inr f ↦ fork_to_event e.thread f.0 lt (does a lt f.1) (last_of log e)
        ] in
        step (hb_too a lt p.2) (program d)
    go (by_join u o p) =
        let lt = source_within log u p.0 p.1 in
        let d : ProgramEdge (log ++ e ∷ []) p.0 (length log) = elim p.1 [
          | inl x ↦ event_to_join u e.thread lt (of a lt x) (last_as log e o)
          | inr f ↦ fork_to_join u f.0 e.thread lt (does a lt f.1) (last_as log e o)
        ] in
        step (hb_too a lt p.2) (program d)
    go (by_lock l o z p) =
        let lt = slice_get_within log p.0 p.1.1.does.event p.1.1.does.at in
        step (hb_too a lt p.2) (lock p.1.0 e.thread l lt (releases_it a lt p.1.1) (last_opens log e l o z))

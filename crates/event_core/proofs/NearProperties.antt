-- Each event below j, but j itself, is below an event of near j.
use Rattle.std.proofs.Common.{◌≡◌, ℕ, ◌<◌, ◌≤◌, List, refl, subst, arith, ◌⊎◌}
use Rattle.std.proofs.lemmas.Bool.{cases_lt}
use mathlib.Core.Logic.{inl, inr}
use Rattle.event_core.proofs.Words.{ThreadId, LockId, Event, Fork, Join}
use Rattle.event_core.specs.Log.{Does, Of, OuterAcquire, OuterRelease}
use Rattle.event_core.specs.Order.{here, step, same_thread, fork_to_event, fork_to_join, event_to_join}
use Rattle.event_core.specs.Order.{HbEdge, program, lock, Hb}
use Rattle.event_core.specs.Recurrence.{Near, previous, forked, joined, joined_fork, released}
use Rattle.event_core.specs.Orderly.{Orderly}
use Rattle.event_core.proofs.LogProperties.{of_does, sections_apart}
use Rattle.event_core.proofs.OrderProperties.{chain_one, hb_trans, hb_thread}
use Rattle.event_core.proofs.LatestIndex.{Latest, latest, latest_of, at_most_latest}
use Rattle.event_core.proofs.DepthProperties.{of_cases, release_cases, section_of}

-- an event of near j that is at or above g
pub record Through (log : List Event) (g j : ℕ) : Type 0 where
  pub index : ℕ
  pub near : Near log index j
  pub above : Hb log g index

-- what is near an event happens before it
pub near_hb : {log : List Event} {g j : ℕ} → Near log g j → Hb log g j
near_hb (previous u lt a b none) = chain_one (program (same_thread u lt a b))
near_hb (forked u v lt a b none) = chain_one (program (fork_to_event u v lt a b))
near_hb (joined u w lt a b none) = chain_one (program (event_to_join u w lt a b))
near_hb (joined_fork u v w lt a b) = chain_one (program (fork_to_join u v w lt a b))
near_hb (released u v l lt a b none) = chain_one (lock u v l lt a b)

-- what is near an event comes before it
pub near_before : {log : List Event} {g j : ℕ} → Near log g j → g < j
near_before (previous u lt a b none) = lt
near_before (forked u v lt a b none) = lt
near_before (joined u w lt a b none) = lt
near_before (joined_fork u v w lt a b) = lt
near_before (released u v l lt a b none) = lt

-- an edge from an earlier event of j's own thread
through_thread : (log : List Event) (g j : ℕ) (u : ThreadId) → g < j → Of log g u → Of log j u
    → Through log g j
through_thread log g j u lt a b =
    let p : Latest (λ k. Of log k u) j = latest_of (λ k. Of log k u) (of_cases log u) g j lt a in
    record {
      index = p.index;
      near = previous u p.below p.holds b p.none_after;
      above = hb_thread u a p.holds (at_most_latest p lt a);
    }

through_join : (log : List Event) (g j : ℕ) (u w : ThreadId) → g < j → Of log g u → Does log j w (Join u)
    → Through log g j
through_join log g j u w lt a b =
    let p : Latest (λ k. Of log k u) j = latest_of (λ k. Of log k u) (of_cases log u) g j lt a in
    record {
      index = p.index;
      near = joined u w p.below p.holds b p.none_after;
      above = hb_thread u a p.holds (at_most_latest p lt a);
    }

through_fork : (log : List Event) (g j : ℕ) (u v : ThreadId) → Orderly log → g < j → Does log g v (Fork u)
    → Of log j u → Through log g j
through_fork log g j u v w lt a b = elim (latest (λ k. Of log k u) (of_cases log u) j) [
  | inl p ↦ record {
    index = p.index;
    near = previous u p.below p.holds b p.none_after;
    above = chain_one (program (fork_to_event u v (w.fork_first g p.index u v a p.holds) a p.holds));
  }
  | inr none ↦ record { index = g; near = forked u v lt a b none; above = here }
]

through_lock : (log : List Event) (g j : ℕ) (u v : ThreadId) (l : LockId) → Orderly log → g < j
    → OuterRelease log g u l → OuterAcquire log j v l → Through log g j
through_lock log g j u v l w lt a b =
    record {
      index = p.index;
      near = near;
      above = elim (cases_lt g p.index) [
        | inl early ↦
            let s = section_of log p.holds.0 l p.index w p.holds.1 in
            let t = section_of log u l g w a in
            hb_trans
            (chain_one (lock u p.holds.0 l (sections_apart w t.1 s.1 early) a s.1.inside.opened))
            (hb_thread p.holds.0 (of_does s.1.inside.opened.does) (of_does p.holds.1.does) s.1.inside.from)
        | inr late ↦
            let le : g ≤ p.index = at_most_latest p lt (u, a) in
            let same : g ≡ p.index = omega arith in
            subst (λ x. Hb log g x) same here
      ];
    }
  where
    P : ℕ → Type 0
    P k = (t : ThreadId) × OuterRelease log k t l

    p : Latest P j
    p = latest_of P (release_cases log l) g j lt (u, a)

    near : Near log p.index j
    near = released p.holds.0 v l p.below p.holds.1 b (λ k t c d o. p.none_after k c d (t, o))

pub edge_through : (log : List Event) (g j : ℕ) → Orderly log → HbEdge log g j → Through log g j
edge_through log g j w (program (same_thread u lt a b)) = through_thread log g j u lt a b
edge_through log g j w (program (fork_to_event u v lt a b)) = through_fork log g j u v w lt a b
edge_through log g j w (program (fork_to_join u v t lt a b)) =
    record { index = g; near = joined_fork u v t lt a b; above = here }
edge_through log g j w (program (event_to_join u t lt a b)) = through_join log g j u t lt a b
edge_through log g j w (lock u v l lt a b) = through_lock log g j u v l w lt a b

-- what happens before an event is the event itself, or reaches it through one that is near
pub near_law : (log : List Event) (i j : ℕ) → Orderly log → Hb log i j → (i ≡ j) ⊎ Through log i j
near_law log i j w here = inl refl
near_law log i j w (step {g = g} c e) =
    let t = edge_through log g j w e in
    inr (record { index = t.index; near = t.near; above = hb_trans c t.above })

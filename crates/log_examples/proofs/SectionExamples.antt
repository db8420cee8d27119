-- The small logs about the ends of sections, forks and races.
use Rattle.std.proofs.Common.{◌<◌, ◌≡◌, ℕ, Bool, true, refl, ap, arith, nat_le, nat_eq, ◌&&◌}
use mathlib.Core.Logic.{inl, inr}
use Rattle.event_core.specs.declared.ids.ThreadId.{ThreadId}
use Rattle.event_core.specs.declared.events.Op.TheVariants.{Store, Acquire, Release, Fork, Join}
use Rattle.event_core.specs.Log.{depth, Section}
use Rattle.event_core.specs.Order.{fork_to_join, Po}
use Rattle.event_core.specs.Wcp.{Meets, rule_a, rule_c_left, Below}
use Rattle.log_examples.specs.Examples.{main, child, other, l, k, x, overlapping_sections, inner_release}
use Rattle.log_examples.specs.Examples.{empty_child, three_stores, ReleaseEndsItsOwnSection}
use Rattle.log_examples.specs.Examples.{InnerReleaseEndsNoSection, ForkIsBelowJoin, LatestRaceIsTold}
use Rattle.event_core.proofs.OrderProperties.{chain_one, chain_trans, hb_thread, po_thread}
use Rattle.log_examples.proofs.RelationTests.{inside_at, clear_but, racy_with, is_left_by_none, no_strict}
use Rattle.log_examples.proofs.ExampleFacts.{is, at_thread, section_at, conflict_at, meets_at, main_not_child}
use Rattle.log_examples.proofs.ExampleFacts.{po_stays_in}

-- overlapping sections
overlap_unordered : Below overlapping_sections 4 7 → ⊥
unfolding depth
overlap_unordered (inl s) = no_strict overlapping_sections 8 4 7 refl (omega arith) s
overlap_unordered (inr p) =
    po_stays_in overlapping_sections (λ i. nat_le 4 i && nat_le i 5) 4 7 refl refl (λ e. cc) p

pub own_section_ends : ReleaseEndsItsOwnSection
unfolding depth
own_section_ends = (
  section_at overlapping_sections main l 1 2 3 (is overlapping_sections 1 main (Acquire l) refl)
      (is overlapping_sections 3 main (Release l) refl) refl refl refl refl,
  section_at overlapping_sections main k 2 3 5 (is overlapping_sections 2 main (Acquire k) refl)
      (is overlapping_sections 5 main (Release k) refl) refl refl refl refl,
  racy_with overlapping_sections 7 4
      (record {
        before = omega arith;
        conflict =
            conflict_at (is overlapping_sections 4 main (Store x) refl)
            (is overlapping_sections 7 child (Store x) refl) refl main_not_child;
        unordered = overlap_unordered;
      })
      refl,
)

-- an inner release
inner_section : Section inner_release main l 1 5
unfolding depth
inner_section =
    section_at inner_release main l 1 4 5 (is inner_release 1 main (Acquire l) refl)
    (is inner_release 5 main (Release l) refl) refl refl refl refl

inner_meet : Meets inner_release 5 7
unfolding depth
inner_meet =
    meets_at inner_section (is inner_release 4 main (Store x) refl) (omega arith) (omega arith)
    (inside_at inner_release child l 6 1 7 (is inner_release 6 child (Acquire l) refl) refl
    (at_thread inner_release 7 child (Store x) refl) refl refl) (is inner_release 7 child (Store x) refl)
    (omega arith) refl

pub inner_release_inside : InnerReleaseEndsNoSection
unfolding depth
inner_release_inside = (
  inside_at inner_release main l 1 3 4 (is inner_release 1 main (Acquire l) refl) refl
      (at_thread inner_release 4 main (Store x) refl) refl refl,
  inner_section,
  rule_a inner_meet,
  clear_but inner_release 7 4 refl
      (inl (rule_c_left (hb_thread main (at_thread inner_release 4 main (Store x) refl)
      (at_thread inner_release 5 main (Release l) refl) (omega arith)) (rule_a inner_meet))),
)

-- the fork and the join of a thread with no event
fork_join : Po empty_child 1 2
fork_join =
    chain_one (fork_to_join child main other (omega arith) (is empty_child 1 main (Fork child) refl)
    (is empty_child 2 other (Join child) refl))

store_to_store : Po empty_child 0 3
store_to_store =
    chain_trans (po_thread main (at_thread empty_child 0 main (Store x) refl)
    (at_thread empty_child 1 main (Fork child) refl) (omega arith))
    (chain_trans fork_join
    (po_thread other (at_thread empty_child 2 other (Join child) refl)
    (at_thread empty_child 3 other (Store x) refl) (omega arith)))

pub fork_before_join : ForkIsBelowJoin
fork_before_join = (fork_join, store_to_store, clear_but empty_child 3 0 refl (inr store_to_store))

-- three stores with no order
stores_unordered : (s : ℕ → Bool) (i j : ℕ) → j < 5 → is_left_by_none three_stores s ≡ true → s i ≡ true
    → (s j ≡ true → ⊥) → Below three_stores i j → ⊥
unfolding depth
stores_unordered s i j lt closed in_s out (inl d) = no_strict three_stores 5 i j refl lt d
stores_unordered s i j lt closed in_s out (inr p) = po_stays_in three_stores s i j closed in_s out p

pub latest_race : LatestRaceIsTold
latest_race = (
  racy_with three_stores 3 2
      (record {
        before = omega arith;
        conflict =
            conflict_at (is three_stores 2 child (Store x) refl) (is three_stores 3 other (Store x) refl) refl
            (λ e. let n : child.0 ≡ other.0 = ap (λ (t : ThreadId). t.0) e in cc);
        unordered = stores_unordered (λ i. nat_eq i 2) 2 3 (omega arith) refl refl (λ e. cc);
      })
      refl,
  racy_with three_stores 4 3
      (record {
        before = omega arith;
        conflict =
            conflict_at (is three_stores 3 other (Store x) refl) (is three_stores 4 main (Store x) refl) refl
            (λ e. let n : other.0 ≡ main.0 = ap (λ (t : ThreadId). t.0) e in cc);
        unordered = stores_unordered (λ i. nat_eq i 3) 3 4 (omega arith) refl refl (λ e. cc);
      })
      refl,
)

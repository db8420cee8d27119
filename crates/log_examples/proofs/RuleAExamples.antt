-- The small logs about rule (a): what it orders, and what it leaves unordered.
use Rattle.std.proofs.Common.{◌≡◌, ℕ, ◌≤◌, refl, arith, Some, slice_get, nat_le, ◌&&◌}
use mathlib.Core.Logic.{inl, inr}
use Rattle.event_core.specs.declared.events.Op.{Op}
use Rattle.event_core.specs.declared.events.Op.TheVariants.{Load, Store, Acquire, Release}
use Rattle.event_core.specs.Log.{depth, Section}
use Rattle.event_core.specs.Order.{lock, Po, Hb}
use Rattle.event_core.specs.Wcp.{Meets, Strict, rule_a, rule_c_left, rule_c_right, Below}
use Rattle.event_core.specs.Verdict.{Races}
use Rattle.log_examples.specs.Examples.{main, child, l, x, y, event, two_sections, empty_section}
use Rattle.log_examples.specs.Examples.{loading_section, early_load, ConflictingSectionsAreOrdered}
use Rattle.log_examples.specs.Examples.{HappensBeforeIsNotEnough, OrderPassesThroughSections}
use Rattle.log_examples.specs.Examples.{OrderBeginsAtTheAccess}
use Rattle.event_core.proofs.OrderProperties.{chain_one, hb_thread, hb_trans}
use Rattle.log_examples.proofs.RelationTests.{inside_at, clear_but, racy_with, no_strict}
use Rattle.log_examples.proofs.ExampleFacts.{is, at_thread, section_at, conflict_at, meets_at}
use Rattle.log_examples.proofs.ExampleFacts.{main_not_child, po_stays_in}

-- two sections with conflicting stores
section_stores : Section two_sections main l 1 3
unfolding depth
section_stores =
    section_at two_sections main l 1 2 3 (is two_sections 1 main (Acquire l) refl)
    (is two_sections 3 main (Release l) refl) refl refl refl refl

stores_meet : Meets two_sections 3 5
unfolding depth
stores_meet =
    meets_at section_stores (is two_sections 2 main (Store x) refl) (omega arith) (omega arith)
    (inside_at two_sections child l 4 1 5 (is two_sections 4 child (Acquire l) refl) refl
    (at_thread two_sections 5 child (Store x) refl) refl refl) (is two_sections 5 child (Store x) refl)
    (omega arith) refl

store_first : Strict two_sections 2 5
store_first =
    rule_c_left (hb_thread main (at_thread two_sections 2 main (Store x) refl)
    (at_thread two_sections 3 main (Release l) refl) (omega arith)) (rule_a stores_meet)

pub conflicting_sections : ConflictingSectionsAreOrdered
conflicting_sections = (rule_a stores_meet, store_first, clear_but two_sections 5 2 refl (inl store_first))

-- a later section with no access
no_strict_there : Strict empty_section 1 7 → ⊥
unfolding depth
no_strict_there s = no_strict empty_section 8 1 7 refl (omega arith) s

no_po_there : Po empty_section 1 7 → ⊥
no_po_there = po_stays_in empty_section (λ i. nat_le 1 i && nat_le i 4) 1 7 refl refl (λ e. cc)

release_edge : Hb empty_section 4 5
unfolding depth
release_edge =
    chain_one (lock main child l (omega arith)
    (record { does = is empty_section 4 main (Release l) refl; outer = refl })
    (record { does = is empty_section 5 child (Acquire l) refl; outer = refl }))

pub happens_before_alone : HappensBeforeIsNotEnough
happens_before_alone = (
  hb_trans (hb_thread main (at_thread empty_section 1 main (Store y) refl)
      (at_thread empty_section 4 main (Release l) refl) (omega arith))
      (hb_trans release_edge
      (hb_thread child (at_thread empty_section 5 child (Acquire l) refl)
      (at_thread empty_section 7 child (Load y) refl) (omega arith))),
  no_strict_there,
  no_po_there,
  racy_with empty_section 7 1 races refl,
)
  where
    unordered : Below empty_section 1 7 → ⊥
    unordered (inl s) = no_strict_there s
    unordered (inr p) = no_po_there p

    races : Races empty_section 1 7
    races = record {
      before = omega arith;
      conflict =
          conflict_at (is empty_section 1 main (Store y) refl) (is empty_section 7 child (Load y) refl) refl
          main_not_child;
      unordered = unordered;
    }

-- a later section that loads
loading_meet : Meets loading_section 4 6
unfolding depth
loading_meet =
    meets_at (section_at loading_section main l 2 2 4 (is loading_section 2 main (Acquire l) refl)
    (is loading_section 4 main (Release l) refl) refl refl refl refl)
    (is loading_section 3 main (Store x) refl) (omega arith) (omega arith)
    (inside_at loading_section child l 5 1 6 (is loading_section 5 child (Acquire l) refl) refl
    (at_thread loading_section 6 child (Load x) refl) refl refl) (is loading_section 6 child (Load x) refl)
    (omega arith) refl

main_before : {i j : ℕ} (o p : Op) → slice_get loading_section i ≡ Some (event main o)
    → slice_get loading_section j ≡ Some (event main p) → i ≤ j → Hb loading_section i j
main_before {i = i} {j = j} o p a b le =
    hb_thread main (at_thread loading_section i main o a) (at_thread loading_section j main p b) le

pub order_passes : OrderPassesThroughSections
order_passes = (
  rule_a loading_meet,
  passes,
  clear_but loading_section 6 3 refl (inl inner),
  clear_but loading_section 8 1 refl (inl passes),
)
  where
    inner : Strict loading_section 3 6
    inner = rule_c_left (main_before (Store x) (Release l) refl refl (omega arith)) (rule_a loading_meet)

    passes : Strict loading_section 1 8
    passes =
        rule_c_right
        (rule_c_left (main_before (Store y) (Release l) refl refl (omega arith)) (rule_a loading_meet))
        (hb_thread child (at_thread loading_section 6 child (Load x) refl)
        (at_thread loading_section 8 child (Load y) refl) (omega arith))

-- the load before the conflicting one
late_meet : Meets early_load 4 7
unfolding depth
late_meet =
    meets_at (section_at early_load main l 2 2 4 (is early_load 2 main (Acquire l) refl)
    (is early_load 4 main (Release l) refl) refl refl refl refl) (is early_load 3 main (Store x) refl)
    (omega arith) (omega arith)
    (inside_at early_load child l 5 2 7 (is early_load 5 child (Acquire l) refl) refl
    (at_thread early_load 7 child (Load x) refl) refl refl) (is early_load 7 child (Load x) refl)
    (omega arith) refl

not_strict_early : Strict early_load 1 6 → ⊥
unfolding depth
not_strict_early s = no_strict early_load 7 1 6 refl (omega arith) s

early_unordered : Below early_load 1 6 → ⊥
early_unordered (inl s) = not_strict_early s
early_unordered (inr p) = po_stays_in early_load (λ i. nat_le 1 i && nat_le i 4) 1 6 refl refl (λ e. cc) p

pub order_begins : OrderBeginsAtTheAccess
order_begins = (
  rule_a late_meet,
  not_strict_early,
  racy_with early_load 6 1
      (record {
        before = omega arith;
        conflict =
            conflict_at (is early_load 1 main (Store y) refl) (is early_load 6 child (Load y) refl) refl
            main_not_child;
        unordered = early_unordered;
      })
      refl,
  clear_but early_load 7 3 refl
      (inl (rule_c_left (hb_thread main (at_thread early_load 3 main (Store x) refl)
      (at_thread early_load 4 main (Release l) refl) (omega arith)) (rule_a late_meet))),
)

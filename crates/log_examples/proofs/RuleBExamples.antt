-- The small logs about rule (b): releases that it orders, of two threads and of one.
use Rattle.std.proofs.Common.{◌≡◌, ℕ, ◌≤◌, List, refl, arith, Some, slice_get}
use mathlib.Core.Logic.{inl}
use Rattle.event_core.specs.declared.ids.ThreadId.{ThreadId}
use Rattle.event_core.specs.declared.events.Event.{Event}
use Rattle.event_core.specs.declared.events.Op.{Op}
use Rattle.event_core.specs.declared.events.Op.TheVariants.{Load, Store, Acquire, Release}
use Rattle.event_core.specs.Log.{depth, Section}
use Rattle.event_core.specs.Order.{lock, Hb}
use Rattle.event_core.specs.Wcp.{Meets, Strict, rule_a, rule_b, rule_c_left, rule_c_right}
use Rattle.log_examples.specs.Examples.{main, child, other, l, k, m, n, x, y, z, event, sections_in_turn}
use Rattle.log_examples.specs.Examples.{sections_of_one_thread, RuleBOrdersReleases, RuleBWithinOneThread}
use Rattle.event_core.proofs.OrderProperties.{chain_one, hb_thread, hb_trans}
use Rattle.log_examples.proofs.RelationTests.{inside_at, clear_but}
use Rattle.log_examples.proofs.ExampleFacts.{is, at_thread, section_at, in_it, meets_at}

-- rule (b)
effect_thread : {i j : ℕ} (t : ThreadId) (o p : Op) → slice_get sections_in_turn i ≡ Some (event t o)
    → slice_get sections_in_turn j ≡ Some (event t p) → i ≤ j → Hb sections_in_turn i j
effect_thread {i = i} {j = j} t o p a b le =
    hb_thread t (at_thread sections_in_turn i t o a) (at_thread sections_in_turn j t p b) le

effect_meet : Meets sections_in_turn 4 8
unfolding depth
effect_meet =
    meets_at (section_at sections_in_turn main k 2 2 4 (is sections_in_turn 2 main (Acquire k) refl)
    (is sections_in_turn 4 main (Release k) refl) refl refl refl refl)
    (is sections_in_turn 3 main (Store x) refl) (omega arith) (omega arith)
    (inside_at sections_in_turn child k 7 1 8 (is sections_in_turn 7 child (Acquire k) refl) refl
    (at_thread sections_in_turn 8 child (Load x) refl) refl refl) (is sections_in_turn 8 child (Load x) refl)
    (omega arith) refl

first_on_l : Section sections_in_turn main l 1 6
unfolding depth
first_on_l =
    section_at sections_in_turn main l 1 5 6 (is sections_in_turn 1 main (Acquire l) refl)
    (is sections_in_turn 6 main (Release l) refl) refl refl refl refl

second_on_l : Section sections_in_turn child l 10 11
unfolding depth
second_on_l =
    section_at sections_in_turn child l 10 1 11 (is sections_in_turn 10 child (Acquire l) refl)
    (is sections_in_turn 11 child (Release l) refl) refl refl refl refl

pub releases_ordered : RuleBOrdersReleases
releases_ordered = (
  rule_a effect_meet,
  across,
  by_b,
  ordered,
  clear_but sections_in_turn 12 5 refl (inl ordered),
)
  where
    across : Strict sections_in_turn 1 11
    across =
        rule_c_right
        (rule_c_left (effect_thread main (Acquire l) (Release k) refl refl (omega arith))
        (rule_a effect_meet))
        (effect_thread child (Load x) (Release l) refl refl (omega arith))

    by_b : Strict sections_in_turn 6 11
    by_b =
        rule_b l (omega arith)
        (in_it first_on_l (at_thread sections_in_turn 1 main (Acquire l) refl) (omega arith) (omega arith))
        (in_it second_on_l (at_thread sections_in_turn 11 child (Release l) refl) (omega arith) (omega arith))
        across

    ordered : Strict sections_in_turn 5 12
    ordered =
        rule_c_right (rule_c_left (effect_thread main (Store y) (Release l) refl refl (omega arith)) by_b)
        (effect_thread child (Release l) (Load y) refl refl (omega arith))

-- two sections of one thread
abbrev long : List Event
long = sections_of_one_thread

in_thread : {i j : ℕ} (t : ThreadId) (o p : Op) → slice_get long i ≡ Some (event t o)
    → slice_get long j ≡ Some (event t p) → i ≤ j → Hb long i j
in_thread {i = i} {j = j} t o p a b le = hb_thread t (at_thread long i t o a) (at_thread long j t p b) le

over_m : Meets long 8 13
unfolding depth
over_m =
    meets_at (section_at long main m 6 2 8 (is long 6 main (Acquire m) refl) (is long 8 main (Release m) refl)
    refl refl refl refl) (is long 7 main (Store x) refl) (omega arith) (omega arith)
    (inside_at long child m 12 1 13 (is long 12 child (Acquire m) refl) refl
    (at_thread long 13 child (Load x) refl) refl refl) (is long 13 child (Load x) refl) (omega arith) refl

over_k : Hb long 16 17
unfolding depth
over_k =
    chain_one (lock child main k (omega arith)
    (record { does = is long 16 child (Release k) refl; outer = refl })
    (record { does = is long 17 main (Acquire k) refl; outer = refl }))

over_n : Hb long 4 9
unfolding depth
over_n =
    chain_one (lock other main n (omega arith)
    (record { does = is long 4 other (Release n) refl; outer = refl })
    (record { does = is long 9 main (Acquire n) refl; outer = refl }))

first_section : Section long main l 5 11
unfolding depth
first_section =
    section_at long main l 5 6 11 (is long 5 main (Acquire l) refl) (is long 11 main (Release l) refl)
    refl refl refl refl

second_section : Section long main l 19 20
unfolding depth
second_section =
    section_at long main l 19 1 20 (is long 19 main (Acquire l) refl) (is long 20 main (Release l) refl)
    refl refl refl refl

acquire_to_acquire : Strict long 5 19
acquire_to_acquire =
    rule_c_right
    (rule_c_left (in_thread main (Acquire l) (Release m) refl refl (omega arith)) (rule_a over_m))
    (hb_trans (in_thread child (Load x) (Release k) refl refl (omega arith))
    (hb_trans over_k (in_thread main (Acquire k) (Acquire l) refl refl (omega arith))))

release_to_release : Strict long 11 20
release_to_release =
    rule_b l (omega arith)
    (in_it first_section (at_thread long 5 main (Acquire l) refl) (omega arith) (omega arith))
    (in_it second_section (at_thread long 19 main (Acquire l) refl) (omega arith) (omega arith))
    acquire_to_acquire

store_to_load : Strict long 2 21
store_to_load =
    rule_c_right
    (rule_c_left (hb_trans (in_thread other (Store z) (Release n) refl refl (omega arith))
    (hb_trans over_n (in_thread main (Acquire n) (Release l) refl refl (omega arith)))) release_to_release)
    (in_thread main (Release l) (Load z) refl refl (omega arith))

pub within_one_thread : RuleBWithinOneThread
within_one_thread = (
  rule_a over_m,
  acquire_to_acquire,
  release_to_release,
  store_to_load,
  clear_but long 21 2 refl (inl store_to_load),
)

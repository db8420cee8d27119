use Rattle.std.proofs.Common.{◌≡◌, ℕ, List, ap, ◌∙◌, subst, refl, arith, take, length, slice_index, rules}
use Rattle.std.proofs.Math.Seq.{take-length}
use Rattle.std.proofs.lemmas.Option.{slice_get_within}
use Rattle.std.proofs.lemmas.List.{length_push}
use Rattle.event_core.specs.declared.ids.ThreadId.{ThreadId}
use Rattle.event_core.specs.declared.events.Event.{Event}
use Rattle.event_core.specs.Log.{Of}
use Rattle.event_core.specs.Count.{events_of}
use Rattle.event_core.proofs.LogProperties.{of_one}
use Rattle.witness.proofs.Ranks.{rank_small, counts_none, counts_more}
use Rattle.witness.proofs.Entries.{each_more}
use Rattle.witness.proofs.tables.find_places.Goals as goal

pub events-init : goal.events-init
events-init c = record {
  long = search rules;
  places = λ n lt. absurd (omega arith);
  counts = λ u. counts_none _ c.new-counts.ensures.items u;
}

pub overflow_cast-count_of : goal.overflow_cast-count_of
overflow_cast-count_of c =
    let t = c.event_at-event.result.thread in
    let lent = ap (λ (xs : List ℕ). slice_index xs t.0) c.deref.ensures.value in
    let is = c.events.invariant.counts t in
    let few = rank_small c.args.log.now.events t c.events.index in
    let n = c.count_of.ensures in
    let a = c.events-test.true in
    let b = c.len-index-end.ensures in
    let m = c.requires in
    omega arith

pub count_one-requires : goal.count_one-requires
count_one-requires c =
    let t = c.event_at-event.result.thread in
    let is = c.events.invariant.counts t in
    let few = rank_small c.args.log.now.events t c.events.index in
    let a = c.events-test.true in
    let b = c.len-index-end.ensures in
    let m = c.requires in
    omega arith

pub events-preserved : goal.events-preserved
events-preserved c =
    let log = c.args.log.now.events in
    let k = c.events.index in
    let e = c.event_at-event.result in
    let at = c.event_at-event.ensures in
    let lent = ap (λ (xs : List ℕ). slice_index xs e.thread.0) c.deref.ensures.value in
    let new = c.count_of.ensures ∙ lent ∙ c.events.invariant.counts e.thread in
    let pushed = c.in_ok-push.ensures.items in
    record {
      long = (let l = length_push c.events.places.items c.count_of.result in
          let s = ap length pushed in
          omega (arith, c.events.invariant.long));
      places = λ n lt u o.
          ap (λ (xs : List ℕ). slice_index xs n) pushed
          ∙ each_more (λ i v. (w : ThreadId) → Of log i w → v ≡ events_of (take i log) w) 0 c.count_of.result
          c.events.places.items k c.events.invariant.long c.events.invariant.places
          (λ w p. subst (λ (x : ThreadId). c.count_of.result ≡ events_of (take k log) x)
          (of_one (record { event = e; at = at; thread = refl }) p) new) n lt u o;
      counts = counts_more log k e (slice_index c.events.counts.items)
          (slice_index c.count_one.new.counts.items) at c.events.invariant.counts c.in_ok-count_one.ensures;
    }

pub returns-clause-places : goal.returns-clause-places
returns-clause-places c = λ k u o.
    let within = slice_get_within c.args.log.now.events k o.event o.at in
    let over = c.events-test.false in
    let b = c.len-index-end.ensures in
    c.events.invariant.places k (omega arith) u o

pub returns-clause-totals : goal.returns-clause-totals
returns-clause-totals c = λ u.
    let log = c.args.log.now.events in
    let over = c.events-test.false in
    let up = c.events.auto.index-end in
    let b = c.len-index-end.ensures in
    let end : c.events.index ≡ length log = omega arith in
    c.events.invariant.counts u
    ∙ ap (λ (n : ℕ). events_of (take n log) u) end
    ∙ ap (λ (xs : List Event). events_of xs u) (take-length log)

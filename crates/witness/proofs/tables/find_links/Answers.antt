use Rattle.std.proofs.Common.{◌≡◌, ℕ, List, Option, None, ap, sym, ◌∙◌, refl, arith, length, get_or}
use Rattle.std.proofs.Common.{rules}
use Rattle.std.proofs.lemmas.Option.{slice_get_within}
use Rattle.std.proofs.lemmas.List.{length_push}
use Rattle.event_core.specs.declared.ids.ThreadId.{ThreadId}
use Rattle.event_core.specs.declared.ids.VarId.{VarId}
use Rattle.event_core.specs.declared.events.Op.TheVariants.{Load}
use Rattle.event_core.specs.Log.{Does}
use Rattle.event_core.proofs.LogProperties.{does_op}
use Rattle.witness.specs.Links.{back}
use Rattle.witness.specs.Indices.{below, last_store}
use Rattle.witness.proofs.IndicesProperties.{none_early, early_more, none_read, store_noted}
use Rattle.witness.proofs.Entries.{each_more}
use Rattle.witness.proofs.tables.find_links.Goals as goal

pub events-init : goal.events-init
events-init c = record {
  long = search rules;
  reads = λ n lt. absurd (omega arith);
  stores = λ x. none_read c.args.log.now.events _ c.new-stores.ensures.items x;
  early = λ x s is. absurd (none_early _ c.new-stores.ensures.items x s is);
}

pub events-preserved : goal.events-preserved
events-preserved c =
    let log = c.args.log.now.events in
    let k = c.events.index in
    let e = c.event_at-event.result in
    let at = c.event_at-event.ensures in
    let pushed = c.in_ok-push.ensures.items in
    record {
      long = (let l = length_push c.events.links.items c.in_ok-link.link in
          let s = ap length pushed in
          let same = c.leave.ensures.long in
          omega (arith, c.events.invariant.long));
      reads = λ n lt u x d.
          c.leave.ensures.back n
          ∙ ap (λ (xs : List ℕ). back (get_or xs n 0) n) pushed
          ∙ each_more
          (λ i v. (w : ThreadId) (y : VarId) → Does log i w (Load y)
          → back v i ≡ last_store log y (below i))
          0 c.in_ok-link.link
          c.events.links.items k c.events.invariant.long c.events.invariant.reads
          (λ w y p.
          let mine = does_op (record { event = e; at = at; thread = refl; does = refl }) p in
          let lent = ap (λ (xs : List (Option ℕ)). get_or xs y.0 None) c.deref.ensures.value in
          c.in_ok-link.ensures y mine (λ s is. c.events.invariant.early y s (sym lent ∙ is))
          ∙ lent
          ∙ c.events.invariant.stores y) n lt u x d;
      stores = λ x. store_noted log k e c.events.stores.items c.note_store.new.stores.items at
          c.events.invariant.stores c.in_ok-note_store.ensures x;
      early = early_more k e c.events.stores.items c.note_store.new.stores.items
          c.events.invariant.early c.in_ok-note_store.ensures;
    }

pub returns : goal.returns
returns c = λ k u x d.
    let within = slice_get_within c.args.log.now.events k d.event d.at in
    let over = c.events-test.false in
    let b = c.len-index-end.ensures in
    c.events.invariant.reads k (omega arith) u x d

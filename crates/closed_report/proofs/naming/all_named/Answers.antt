use Rattle.std.proofs.Common.{◌≡◌, Some, ap, arith, inl, inr, refl, rules, subst, sym, ◌∙◌}
use Rattle.std.specs.Prelude.{slice_get}
use Rattle.std.proofs.lemmas.Bool.{cases_lt}
use Rattle.std.proofs.lemmas.Option.{same_Some, slice_get_within}
use Rattle.event_core.specs.declared.events.Event.{Event}
use Rattle.rapid_text.specs.Events.{HasNames}
use Rattle.closed_report.proofs.naming.all_named.Goals as goal

pub events-preserved : goal.events-preserved
events-preserved c j e below at =
    let found : slice_get c.args.log.now.events c.events.index ≡ Some c.in-Some.event = search rules in
    elim (cases_lt j c.events.index) [
      | inl before ↦ c.events.invariant j e before at
      | inr past ↦
          let here : c.events.index ≡ j = omega arith in
          let same : c.in-Some.event ≡ e = same_Some c.in-Some.event e
          (sym found ∙ (ap (slice_get c.args.log.now.events) here ∙ at)) in
          let named : HasNames c.args.names.now c.in-Some.event = search rules in
          subst (λ (x : Event). HasNames c.args.names.now x) same named
    ]

pub returns-clause-named : goal.returns-clause-named
returns-clause-named c = (
  λ yes j e at.
      let within = slice_get_within c.args.log.now.events j e at in
      c.events.invariant j e (omega (arith, within, c.len.ensures, c.events-test.false)) at,
  λ all. refl,
)

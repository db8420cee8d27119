use Rattle.std.proofs.Common.{inl, inr}
use Rattle.std.proofs.lemmas.Bool.{cases_eq, eq-eqb, eqb-true}
use Rattle.hb_clocks.specs.Holds.{hold_at}
use Rattle.hb_clocks.proofs.HoldsProperties.{alone_holder, not_alone}
use Rattle.hb_clocks.proofs.holds.may_enter.Goals as goal

pub returns-else-depth-eq0 : goal.returns-else-depth-eq0
returns-else-depth-eq0 c =
    let holds = c.args.holds.now in
    let t = c.args.thread.0 in
    let l = c.args.lock in (
      λ is. alone_holder holds t l (eqb-true (hold_at holds l).holder t is),
      λ alone. elim (cases_eq (hold_at holds l).holder t) [
        | inl is ↦ eq-eqb (hold_at holds l).holder t is
        | inr other ↦ absurd (not_alone holds t l other c.if-depth-eq0.false alone)
      ],
    )

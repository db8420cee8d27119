use Rattle.std.proofs.Common.{◌≡◌, List, sym, ap, subst, ◌∙◌}
use Rattle.hb_clocks.specs.declared.holds.Hold.{Hold}
use Rattle.hb_clocks.specs.Holds.{Alone}
use Rattle.hb_clocks.specs.Standing.{Admits}
use Rattle.hb_clocks.specs.Tables.{ClockTables, state_of}
use Rattle.hb_clocks.proofs.hb.HbClocks.admits.Goals as goal

pub returns-in-Acquire : goal.returns-in-Acquire
returns-in-Acquire c =
    let t = c.args.thread in
    let l = c.in-Acquire.lock in
    let holds : List Hold = c.args.self.now.holds in
    let same : c.deref.result.now ≡ holds = c.deref.ensures.value
    ∙ ap (λ (v : ClockTables). v.holds) c.self.view_is in (
      λ is. (let alone : Alone holds t.0 l.0 =
          subst (λ (hs : List Hold). Alone hs t.0 l.0) same (c.may_enter.ensures.0 is) in
          subst (Admits (state_of c.args.self.now) t) (sym c.in-Acquire.is)
          (record { alone = λ u n. alone u.0 n; apart = tt })),
      λ admits. c.may_enter.ensures.1 (subst (λ (hs : List Hold). Alone hs t.0 l.0) (sym same)
          (λ u n. (subst (Admits (state_of c.args.self.now) t) c.in-Acquire.is admits).alone
          (record { 0 = u }) n)),
    )

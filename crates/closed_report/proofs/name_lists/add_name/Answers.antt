use Rattle.std.proofs.Common.{arith, refl, rules}
use Rattle.event_core.proofs.BoolProperties.{not_both}
use Rattle.closed_report.proofs.NameListsProperties.{name_numbered, no_more}
use Rattle.closed_report.proofs.name_lists.add_name.Goals as goal

pub returns-then-not-is_name_of-clause-fault : goal.returns-then-not-is_name_of-clause-fault
returns-then-not-is_name_of-clause-fault c = (
  refl,
  c.count-number.ensures.is,
  λ named. not_both (c.is_name_of.ensures.1 named) c.if-not-is_name_of.true,
)

pub returns-then-given-number-clause-fault : goal.returns-then-given-number-clause-fault
returns-then-given-number-clause-fault c =
    let had = (name_numbered c.args.names.now c.number.new.self c.args.kind c.args.name.now c.in-Ok.given
    c.in-Ok.ensures.ok).0 (omega (arith, c.count-number.ensures.is, c.if-given-number.true)) in
    (refl, c.count-number.ensures.is, (c.in-Ok.given, c.if-given-number.true, had.0))

pub returns-then-given-number-clause-unchanged : goal.returns-then-given-number-clause-unchanged
returns-then-given-number-clause-unchanged c =
    ((name_numbered c.args.names.now c.number.new.self c.args.kind c.args.name.now c.in-Ok.given
    c.in-Ok.ensures.ok).0 (omega (arith, c.count-number.ensures.is, c.if-given-number.true))).1

pub returns-else-given-number-clause-ok : goal.returns-else-given-number-clause-ok
returns-else-given-number-clause-ok c =
    let past = c.if-given-number.false in
    let count = c.count-number.ensures.is in (
      count,
      (name_numbered c.args.names.now c.number.new.self c.args.kind c.args.name.now c.in-Ok.given
          c.in-Ok.ensures.ok).1 (omega (arith, count, past)),
    )

pub returns-in-Err-TooMany-clause-fault : goal.returns-in-Err-TooMany-clause-fault
returns-in-Err-TooMany-clause-fault c = (
  refl,
  no_more c.args.names.now c.args.kind c.args.name.now
      (c.in-Err-TooMany.ensures.too_many.0 (search rules)),
)

pub returns-in-Err-OutOfMemory-clause-fault : goal.returns-in-Err-OutOfMemory-clause-fault
returns-in-Err-OutOfMemory-clause-fault c = tt

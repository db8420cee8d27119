use Rattle.std.proofs.Common.{◌<◌, List, Bool, refl, subst, inr, arith}
use Rattle.script_text.specs.Scripts.{Parsed}
use Rattle.script_text.specs.Marks.{IsFirstUnmarked, AllMarked}
use Rattle.script_text.proofs.MarksProperties.{first_unreached}
use Rattle.script_text.proofs.IsScriptProperties.{below, is_script, some_thread}
use Rattle.script_text.proofs.script.check_forks.Goals as goal

pub reached_threads-requires : goal.reached_threads-requires
reached_threads-requires c = rw c.count.ensures.is
    (below (record { names = c.args.names.now; lines = c.args.lines.now }) c.requires.named)

pub first_unmarked-requires : goal.first_unmarked-requires
first_unmarked-requires c = rw (c.as_slice.ensures.value, c.in-Ok.ensures.len, c.count.ensures.is)
    (below (record { names = c.args.names.now; lines = c.args.lines.now }) c.requires.named)

pub returns-in-Some-clause-fault : goal.returns-in-Some-clause-fault
returns-in-Some-clause-fault c =
    let s : Parsed = record { names = c.args.names.now; lines = c.args.lines.now } in
    let first = subst (λ (m : List Bool). IsFirstUnmarked c.args.lines.now m c.in-Some.line)
    c.as_slice.ensures.value
    c.in-Some.ensures.found in
    let some = some_thread s c.in-Ok.marks.items c.in-Some.line c.requires.named first in
    let threads : 0 < c.count.result = omega (arith, some, c.count.ensures.is) in
    inr (
      refl,
      first_unreached c.args.lines.now c.in-Ok.marks.items c.in-Some.line c.in-Ok.ensures.reached
          (c.in-Ok.ensures.all threads) first,
    )

pub returns-clause-ok : goal.returns-clause-ok
returns-clause-ok c =
    let s : Parsed = record { names = c.args.names.now; lines = c.args.lines.now } in
    is_script s c.in-Ok.marks.items c.requires c.in-Ok.ensures.reached
    (subst (λ (m : List Bool). AllMarked c.args.lines.now m) c.as_slice.ensures.value
    c.in_default-first_unmarked.ensures.none)

use Rattle.std.proofs.Common.{rules, ◌≡◌, ◌∷◌, ◌++◌, ◌∙◌, [], take}
use Rattle.std.specs.List.{filter_map}
use Rattle.script_drive.specs.Ends.{end_fault}
use Rattle.script_drive.proofs.LinkLines.{found_more}
use Rattle.script_drive.proofs.driving.own_faults.Goals as goal

pub loop-end-preserved : goal.loop-end-preserved
loop-end-preserved g c =
    let ends = c.args.ends.now in
    let i = c.loop-end.end-index in
    let more : c.add_fault.new.faults.items
    ≡ filter_map end_fault (take i ends) ++ filter_map end_fault (c.end-item.result ∷ []) = search rules in
    more ∙ found_more end_fault ends i c.end-item.result (search rules) c.loop-end-test.true

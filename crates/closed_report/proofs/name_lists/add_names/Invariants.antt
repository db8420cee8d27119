use Rattle.std.proofs.Common.{◌≡◌, map, take}
use Rattle.rapid_text.specs.Tables.{space, with_space}
use Rattle.closed_report.specs.NameLists.{numbered}
use Rattle.closed_report.proofs.name_lists.add_names.Given as goal

abbrev pub invariant-loop-name : goal.invariant-loop-name
invariant-loop-name l =
    l.names ≡ with_space l.fn.names l.kind
    (numbered (space l.fn.names l.kind).limit (map (λ name. name.now) (take l.name-index l.list)))

use Rattle.std.proofs.Common.{◌∷◌, ◌++◌, ◌∙◌, List, ℕ, ap, map, sym, take}
use Rattle.std.specs.Prelude.{get_or}
use Rattle.std.proofs.lemmas.Option.{slice_get-get_or}
use Rattle.rapid_text.specs.Tables.{space}
use Rattle.closed_report.proofs.NameListsProperties.{fault_of_next, none_yet, parted}
use Rattle.closed_report.proofs.name_lists.add_names.Goals as goal

pub loop-name-init : goal.loop-name-init
loop-name-init c = none_yet c.args.names.now c.args.kind c.requires.empty

pub returns-in-Err-clause-fault : goal.returns-in-Err-clause-fault
returns-in-Err-clause-fault c =
    let list = c.args.list.now in
    let at = c.loop-name.name-index in
    let before = map (λ name. name.now) (take at list) in
    let parts = parted (λ name. name.now) list at (get_or list at _)
    (slice_get-get_or list at _ c.loop-name-test.true) in
    fault_of_next c.args.names.now c.loop-name.names c.args.kind
    (space c.args.names.now c.args.kind).limit
    before parts.0 (map (λ name. name.now) list) c.as_bytes.result.now c.in-Err.fault
    c.loop-name.invariant
    (parts.1 ∙ ap (λ (name : List ℕ). before ++ name ∷ parts.0) (sym c.as_bytes.ensures.value))
    c.in-Err.ensures.fault

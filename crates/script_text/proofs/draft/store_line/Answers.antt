use Rattle.std.proofs.Common.{sym, subst, ◌∙◌, List, ℕ}
use Rattle.rapid_line.specs.Grammar.{IsField}
use Rattle.script_text.proofs.Locations.{decimal_is_field}
use Rattle.script_text.proofs.draft.store_line.Goals as goal

pub number_of_name-requires-3 : goal.number_of_name-requires-3
number_of_name-requires-3 c = subst (λ (ds : List ℕ). IsField ds)
    (sym (c.as_bytes.ensures.value ∙ c.format.ensures.text)) (decimal_is_field c.args.line c.ranges.line.fits)

use Rattle.std.proofs.Common.{◌≡◌, Some, ◌∙◌, ap, sym, refl, length, arith}
use Rattle.std.specs.Prelude.{slice_get}
use Rattle.std.proofs.lemmas.Option.{slice_get_read}
use Rattle.rapid_text.proofs.NumberCacheProperties.{right_empty, right_put}
use Rattle.rapid_text.proofs.interner.prepare.Goals as goal

pub returns-in_err-reset : goal.returns-in_err-reset
returns-in_err-reset c = right_empty c.args.names.now c.reset.new.self c.reset.ensures.none

pub loop-number-init : goal.loop-number-init
loop-number-init c = right_empty c.args.names.now c.reset.new.self c.reset.ensures.none

pub loop-number-preserved : goal.loop-number-preserved
loop-number-preserved c =
    let names = c.args.names.now in
    let at : slice_get names c.loop-number.number ≡ Some c.as_slice.result.now =
    slice_get_read names (length names) c.loop-number.number c.index-names-number.result refl (omega arith)
    c.index-names-number.is
    ∙ ap Some (sym c.as_slice.ensures) in
    right_put names c.loop-number.cache c.put.new.self _ c.as_slice.result.now at c.loop-number.invariant
    c.put.ensures

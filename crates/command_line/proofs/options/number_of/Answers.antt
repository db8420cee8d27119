use Rattle.std.proofs.Common.{◌∙◌, ℕ, Option, ap}
use Rattle.std.specs.Prelude.{max, min, option_and_then, unwrap_or}
use Rattle.std.specs.Str.Parse.{ParsesUnsigned, ExplainsUnsignedError, HasUnsignedDigitsIfOk}
use Rattle.clap.specs.Words.{found_of}
use Rattle.clap.proofs.WalkLemmas.{one_text-rows}
use Rattle.command_line.specs.Requests.{number_of}
use Rattle.command_line.proofs.CommandSettings.{number_read}
use Rattle.command_line.proofs.options.number_of.Goals as goal

pub returns-clause-given : goal.returns-clause-given
returns-clause-given c =
    let read = number_read
    (λ bs r. ParsesUnsigned 32 10 bs r × ExplainsUnsignedError 10 bs r × HasUnsignedDigitsIfOk bs r)
    (λ u x g. g.0) c.get_one-given.ensures.none c.get_one-given.ensures.value
    ∙ ap (option_and_then number_of) (one_text-rows (found_of c.args.matches.now) c.args.name.now) in
    c.clamp.ensures ∙ ap (λ (n : ℕ). max 1 (min n c.args.most))
    (c.unwrap_or.ensures ∙ ap (λ (o : Option ℕ). unwrap_or o c.args.default) read)

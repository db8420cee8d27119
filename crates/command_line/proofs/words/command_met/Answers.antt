use Rattle.std.specs.Box.{box_value}
use Rattle.clap.specs.Words.{found_of, rows_of}
use Rattle.clap.specs.declared.parser.matches.ArgMatches.TheViews.{out-ArgMatches, out-SubCommand}
use Rattle.command_line.proofs.CommandSettings.{met_is}
use Rattle.command_line.proofs.words.command_met.Goals as goal

pub returns : goal.returns
returns c =
    let named = rw c.unwrap.ensures at c.subcommand.ensures.name in
    let found = rw c.unwrap.ensures at c.subcommand.ensures.rows in
    met_is (out-ArgMatches c.args.matches.now).subcommand (λ b. (out-SubCommand (box_value b)).name.now)
    (λ b. rows_of (found_of (out-SubCommand (box_value b)).matches)) named found

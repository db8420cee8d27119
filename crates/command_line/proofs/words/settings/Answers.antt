use Rattle.std.proofs.Common.{◌∙◌, ap, map, sym}
use Rattle.clap.specs.Words.{App, app_of}
use Rattle.clap.proofs.CallerLemmas.{subcommand_required}
use Rattle.command_line.specs.Requests.{asked, asked_in}
use Rattle.command_line.proofs.CommandFaults.{fault_is, has_command, has_fault, has_no_fault, needs_command}
use Rattle.command_line.proofs.words.settings.Goals as goal

pub settings_of-settings-requires : goal.settings_of-settings-requires
settings_of-settings-requires g c =
    subcommand_required c.in-Ok.command c.in-Ok-try_get_matches_from.matches
    c.in-Ok-try_get_matches_from.ensures.parsed c.in-Ok.ensures.local
    (ap (λ (a : App). a.top.subcommand_required) c.in-Ok.ensures.app ∙ needs_command)

pub returns-in-Err-clause-fault : goal.returns-in-Err-clause-fault
returns-in-Err-clause-fault g c =
    let words = map g.S.AsStr.text c.args.words.now in
    fault_is words c.in-Err.error c.fault_of-fault.result
    (has_fault (app_of c.in-Ok.command) words c.in-Err.error c.in-Ok.ensures.app c.in-Err.ensures.kinds)
    c.fault_of-fault.ensures

pub returns-in-Ok-settings-clause-taken : goal.returns-in-Ok-settings-clause-taken
returns-in-Ok-settings-clause-taken g c =
    has_no_fault (app_of c.in-Ok.command) (map g.S.AsStr.text c.args.words.now) c.in-Ok.ensures.app
    c.in-Ok-try_get_matches_from.ensures.kinds

pub returns-in-Ok-settings-clause-asked : goal.returns-in-Ok-settings-clause-asked
unfolding asked
returns-in-Ok-settings-clause-asked g c =
    ap asked_in (sym (has_command (app_of c.in-Ok.command) (map g.S.AsStr.text c.args.words.now)
    c.in-Ok-try_get_matches_from.matches c.in-Ok.ensures.app c.in-Ok-try_get_matches_from.ensures.matches))
    ∙ c.in-Ok-settings.ensures.asked

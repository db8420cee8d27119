use Rattle.std.proofs.Common.{◌∙◌, ◌||◌, ap, ap₂}
use Rattle.std.proofs.lemmas.Result.{IfOk-weaker}
use Rattle.clap.specs.Words.{App, app_of, with_rule, with_subcommand}
use Rattle.command_line.proofs.commands.with_trace_command.Goals as goal

pub returns-clause-local : goal.returns-clause-local
returns-clause-local c =
    let below = c.in_ok-arg.ensures.globals
    ∙ ap₂ (λ a b. a || b) c.bare_command-command.ensures.local c.threads_option.ensures.local in
    IfOk-weaker c.subcommand.result _ _ (λ x h. h.globals ∙ ap₂ (λ a b. a || b) c.requires below)
    c.subcommand.ensures

pub returns-clause-app : goal.returns-clause-app
returns-clause-app c =
    let below = c.in_ok-arg.ensures.globals
    ∙ ap₂ (λ a b. a || b) c.bare_command-command.ensures.local c.threads_option.ensures.local in
    let app = c.in_ok-arg.ensures.shape c.threads_option.ensures.local
    ∙ ap₂ with_rule c.bare_command-command.ensures.app c.threads_option.ensures.rule in
    IfOk-weaker c.subcommand.result _ _
    (λ x h. h.shape below ∙ ap (λ (a : App). with_subcommand (app_of c.args.program) a.top) app)
    c.subcommand.ensures

use Rattle.std.proofs.Common.{◌∙◌, ◌||◌, ap, ap₂}
use Rattle.std.proofs.lemmas.Result.{IfOk-weaker}
use Rattle.clap.specs.Words.{with_subcommand, App}
use Rattle.command_line.specs.Commands.{trace_command, wcp}
use Rattle.std.specs.Prelude.{codes}
use Rattle.command_line.proofs.commands.program.Goals as goal

pub returns-clause-app : goal.returns-clause-app
unfolding wcp
returns-clause-app c =
    let one = c.in_ok-one.ensures.app
    ∙ ap (λ (a : App). with_subcommand a (trace_command (codes "check"))) c.in_ok-none.ensures.app in
    let two = c.in_ok-two.ensures.app
    ∙ ap (λ (a : App). with_subcommand a (trace_command (codes "replay"))) one in
    let three = c.in_ok-three.ensures.shape c.in_ok-witness_command.ensures.local
    ∙ ap₂ with_subcommand two c.in_ok-witness_command.ensures.shape in
    IfOk-weaker c.subcommand-2.result _ _
    (λ x h. h.shape c.in_ok-run_command.ensures.local ∙ ap₂ with_subcommand three
    c.in_ok-run_command.ensures.shape)
    c.subcommand-2.ensures

pub returns-clause-local : goal.returns-clause-local
returns-clause-local c =
    let three = c.in_ok-three.ensures.globals
    ∙ ap₂ (λ a b. a || b) c.in_ok-two.ensures.local c.in_ok-witness_command.ensures.local in
    IfOk-weaker c.subcommand-2.result _ _
    (λ x h. h.globals ∙ ap₂ (λ a b. a || b) three c.in_ok-run_command.ensures.local)
    c.subcommand-2.ensures

pub with_trace_command-requires : goal.with_trace_command-requires
with_trace_command-requires c = c.in_ok-none.ensures.local

pub with_trace_command-requires-2 : goal.with_trace_command-requires-2
with_trace_command-requires-2 c = c.in_ok-one.ensures.local

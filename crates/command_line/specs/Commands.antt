-- The command lines that the program takes, in the words of clap's contracts.
use Rattle.std.specs.Prelude.{ℕ, [], ◌∷◌, Some, true, codes, pos}
use Rattle.clap.specs.Words.{App, Rule, Shape, Text, new_app, new_rule, with_rule, with_subcommand}
use Rattle.clap.specs.declared.builder.action.ArgAction.TheVariants.{Set}
use Rattle.clap.specs.declared.builder.value_parser.ValueParser.TheVariants.{Signed}

-- an option --NAME N, where N is a number from 1 to the greatest
abbrev pub number_option : Text → ℕ → Text → Rule
number_option name most default = record (new_rule name) {
  long = Some name;
  action = Some Set;
  value_names = 1;
  parser = Some (Signed (pos 1) (pos most));
  defaults = default ∷ [];
}

-- --threads N, from 1 to 1,024; 64 where it is not given
abbrev pub threads_option : Rule
threads_option = number_option (codes "threads") 1024 (codes "64")

-- --patience N, from 1 to 4,294,967,295; 1,000,000 where it is not given
abbrev pub patience_option : Rule
patience_option = number_option (codes "patience") 4294967295 (codes "1000000")

-- FILE, which has to be given
abbrev pub file_argument : Rule
file_argument = record (new_rule (codes "FILE")) { required = true; action = Some Set }

-- EVENT, which may be given: a number from 1 to 4,294,967,295
abbrev pub event_argument : Rule
event_argument = record (new_rule (codes "EVENT")) {
  action = Some Set;
  parser = Some (Signed (pos 1) (pos 4294967295));
}

-- a command over a trace
abbrev pub trace_command : Text → Shape
trace_command name = (with_rule (new_app name) threads_option).top

-- the command that looks for witnesses
abbrev pub witness_command : Shape
witness_command =
    (with_rule (with_rule (new_app (codes "witness")) event_argument) threads_option).top

-- the command over a script
abbrev pub run_command : Shape
run_command =
    (with_rule (with_rule (with_rule (new_app (codes "run")) file_argument) threads_option)
    patience_option).top

-- wcp before its commands: it is given the words after its own name, and wants one of the commands
abbrev pub bare : App
bare = record {
  top = record (new_app (codes "wcp")).top {
    no_binary_name = true;
    has_version = true;
    arg_required_else_help = true;
    subcommand_required = true;
  };
  subs = [];
}

-- wcp with its commands over a trace
abbrev pub trace_commands : App
trace_commands =
    with_subcommand (with_subcommand bare (trace_command (codes "check"))) (trace_command (codes "replay"))

unfoldable pub wcp : App
wcp = with_subcommand (with_subcommand trace_commands witness_command) run_command

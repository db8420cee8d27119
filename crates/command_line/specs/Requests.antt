-- What the words of a command line ask for.
use Rattle.std.specs.Prelude.{ℕ, List, [], Option, Some, None, Bool, true, false, not, codes}
use Rattle.std.specs.Prelude.{◌≡◌, ◌≢◌, ◌&&◌, if◌then◌else◌, length, max, min, nat_lt, option_and_then}
use Rattle.std.specs.Prelude.{option_map, unwrap_or}
use Rattle.std.specs.List.{list_all, list_any}
use Rattle.std.specs.Str.{bytes_eq}
use Rattle.std.specs.Char.{digit_value}
use Rattle.std.specs.Str.Parse.{digits_value, without_leading_plus}
use Rattle.std.specs.String.{string_bytes}
use Rattle.clap.specs.Words.{Row, fault_of, first_of, one_of, subcommand_of}
use Rattle.clap.specs.declared.error.kind.ErrorKind.{ErrorKind}
use Rattle.clap.specs.declared.error.kind.ErrorKind.TheVariants as kinds
use Rattle.command_line.specs.Commands.{wcp}
use Rattle.command_line.specs.declared.requests.Command.{Command}
use Rattle.command_line.specs.declared.requests.Command.TheVariants.{Check, Replay, Witness, Run}
use Rattle.command_line.specs.declared.requests.Settings.{Settings}
use Rattle.command_line.specs.declared.requests.UsageFault.{UsageFault}
use Rattle.command_line.specs.declared.requests.UsageFault.TheVariants as faults
pub use Rattle.clap.specs.Words.{Kinds, Text}

-- the kinds of error that clap may have at the words; none, where it takes them
unfoldable pub faults_of : List Text → Kinds
faults_of words = fault_of wcp words

-- what to do: check a trace, replay it, look for witnesses, of the race of one event or for each pair of
-- locations, or run the script at a path
pub data Request : Type 0 where
  check : Request
  replay : Request
  witness : Option ℕ → Request
  run : Text → Request

-- what words ask for
pub record Asked : Type 0 where
  pub request : Request
  pub threads : ℕ
  pub patience : ℕ

abbrev pub request_of : Command → Request
request_of Check = check
request_of Replay = replay
request_of (Witness event) = witness event
request_of (Run file) = run (string_bytes file)

abbrev pub asked_by : Settings → Asked
asked_by s = record { request = request_of s.command; threads = s.threads; patience = s.patience }

-- the number of 32 bits that a text stands for, if it does
abbrev pub number_of : Text → Option ℕ
number_of text =
    let digits = without_leading_plus text in
    if nat_lt 0 (length digits) && (list_all (λ d. nat_lt (digit_value d) 10) digits
    && nat_lt (digits_value 10 digits) 4294967296) then Some (digits_value 10 digits) else None

-- the number that was found for the option with this name, or its default: from 1 to the greatest
abbrev pub number_for : Text → ℕ → ℕ → List Row → ℕ
number_for name most default rows =
    max 1 (min (unwrap_or (option_and_then number_of (one_of name rows)) default) most)

abbrev pub threads_in : List Row → ℕ
threads_in = number_for (codes "threads") 1024 64

abbrev pub patience_in : List Row → ℕ
patience_in = number_for (codes "patience") 4294967295 1000000

-- the number that was found for EVENT, if one was
abbrev pub event_in : List Row → Option ℕ
event_in rows = option_and_then number_of (one_of (codes "EVENT") rows)

-- no script is run
abbrev pub over_trace : Request → ℕ → Asked
over_trace request threads = record { request = request; threads = threads; patience = 1000000 }

-- the path that was found for FILE
abbrev pub path_in : List Row → Text
path_in rows = unwrap_or (first_of (codes "FILE") rows) []

-- what the command with this name asks for, where clap found this for its options. Clap lets no other name
-- pass, no run without a path, and no other number.
abbrev pub asked_under : Text → List Row → Asked
asked_under name rows =
    if bytes_eq name (codes "check") then over_trace check (threads_in rows)
    else (if bytes_eq name (codes "replay") then over_trace replay (threads_in rows)
    else (if bytes_eq name (codes "witness") then over_trace (witness (event_in rows)) (threads_in rows)
    else record { request = run (path_in rows); threads = threads_in rows; patience = patience_in rows }))

abbrev pub asked_in : Option (Text × List Row) → Option Asked
asked_in = option_map (λ p. asked_under p.0 p.1)

-- what the words ask for
unfoldable pub asked : List Text → Option Asked
asked words = asked_in (subcommand_of wcp words)

-- ---- words that ask for no run

-- help or the version is asked for
abbrev pub is_answer : ErrorKind → Bool
is_answer kinds.DisplayHelp = true
is_answer kinds.DisplayVersion = true
is_answer _ = false

abbrev pub is_mistake : ErrorKind → Bool
is_mistake k = not (is_answer k)

-- the fault is one that clap has at the words
abbrev pub IsFaultAt : List Text → UsageFault → Type 0
IsFaultAt words (faults.Help text) = list_any is_answer (faults_of words) ≡ true
IsFaultAt words (faults.Usage text) = list_any is_mistake (faults_of words) ≡ true
IsFaultAt words faults.OutOfMemory = Unit {0}

-- the fault is that of an error of this kind
abbrev pub TellsKind : ErrorKind → UsageFault → Type 0
TellsKind k (faults.Help text) = (is_answer k ≡ true) × (k ≢ kinds.OutOfMemory)
TellsKind k (faults.Usage text) = (is_mistake k ≡ true) × (k ≢ kinds.OutOfMemory)
TellsKind k faults.OutOfMemory = Unit {0}

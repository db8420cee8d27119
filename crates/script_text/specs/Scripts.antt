-- What a script's text comes to: the lines with their names numbered, or the first cause and its line.
use Rattle.std.specs.Prelude.{
  ◌≡◌,
  ℕ,
  ◌+◌,
  ◌<◌,
  ◌==◌,
  ◌||◌,
  Bool,
  true,
  false,
  List,
  [],
  ◌∷◌,
  ◌++◌,
  length,
  slice_get,
  Option,
  Some,
  None,
  Result,
  Ok,
  Err,
  decimal,
  if◌then◌else◌,
}
use Rattle.std.specs.List.{list_any}
use Rattle.event_core.specs.declared.ids.ThreadId.{ThreadId}
use Rattle.event_core.specs.declared.events.Op.{Op}
use Rattle.event_core.specs.declared.events.Op.TheVariants as ops
use Rattle.event_core.specs.declared.events.Act.{Act}
use Rattle.event_core.specs.declared.events.Act.TheVariants as acts
use Rattle.event_core.specs.declared.events.Event.{Event}
use Rattle.event_core.specs.Bounds.{Bounds}
use Rattle.rapid_text.specs.declared.causes.Kind.{Kind}
use Rattle.rapid_text.specs.declared.causes.Kind.TheVariants as kinds
use Rattle.rapid_text.specs.Tables.{Tables, no_names, number_in}
use Rattle.rapid_line.specs.Cut.{content}
use Rattle.rapid_text.specs.Events.{HasNames, op_of, kind_of as trace_kind}
use Rattle.rapid_line.specs.Lines.{lines_of}
use Rattle.rapid_line.specs.Reading.{and_then, unless}
use Rattle.script_text.specs.declared.causes.ScriptCause.{ScriptCause}
use Rattle.script_text.specs.declared.causes.ScriptCause.TheVariants.{TooManyNames, BadFork, BadJoin}
use Rattle.script_text.specs.declared.causes.ScriptFault.{ScriptFault}
use Rattle.script_text.specs.declared.forms.Word.{Word}
use Rattle.script_text.specs.declared.forms.Word.TheVariants.{One, Swap}
use Rattle.script_text.specs.declared.lines.ScriptLine.{ScriptLine}
use Rattle.script_text.specs.Forms.{SpelledAct, line_of}
use Rattle.script_text.specs.Lines.{thread_of, fork_of, join_of, forks, joins, is_of, is_thread}

-- what was read of a script: its names, and its lines in their order
pub record Parsed : Type 0 where
  pub names : Tables
  pub lines : List ScriptLine

-- before the first line
abbrev pub begun : Bounds → Parsed
begun limits = record { names = no_names limits; lines = [] }

-- ---- one line

-- what the argument of a word names
abbrev pub kind_of : Word → Kind
kind_of (One w) = trace_kind w
kind_of Swap = kinds.Variable

abbrev pub call_act : Op → ℕ → ℕ → ℕ → Act
call_act op thread site number =
    acts.One (record { thread = record { 0 = thread }; op = op; site = record { 0 = site }; arg = number })

-- what a word asks a thread to do with the thing of this number, at this site and with this argument
abbrev pub act_of : Word → ℕ → ℕ → ℕ → ℕ → Act
act_of (One w) thread n site number = call_act (op_of w n) thread site number
act_of Swap thread n site number =
    acts.Swap (record { 0 = thread }) (record { 0 = n }) (record { 0 = site }) number

-- the number of a name, or that there are too many of its kind
abbrev pub number_or_cause : Kind → Option (ℕ × Tables) → Result (ℕ × Tables) ScriptCause
number_or_cause kind None = Err (TooManyNames kind)
number_or_cause kind (Some p) = Ok p

-- line n with its names numbered, in the order thread, argument, location; the location is the line's number
unfoldable pub numbered_line : Tables → ℕ → SpelledAct → Result (ScriptLine × Tables) ScriptCause
numbered_line t n said =
    and_then (number_or_cause kinds.Thread (number_in t kinds.Thread said.thread)) (λ p.
    and_then (number_or_cause (kind_of said.word) (number_in p.1 (kind_of said.word) said.argument)) (λ q.
    and_then (number_or_cause kinds.Site (number_in q.1 kinds.Site (decimal n))) (λ r.
    Ok (record { act = act_of said.word p.0 q.0 r.0 said.number; line = n }, r.1))))

-- a fork of thread 0, or of a thread that a line before forks
abbrev pub is_bad_fork : List ScriptLine → Option ThreadId → Bool
is_bad_fork before None = false
is_bad_fork before (Some u) = u.0 == 0 || list_any (forks u.0) before

-- a join of thread 0, of the line's own thread, or of a thread that a line before joins
abbrev pub is_bad_join : List ScriptLine → ThreadId → Option ThreadId → Bool
is_bad_join before own None = false
is_bad_join before own (Some u) = u.0 == 0 || (u.0 == own.0 || list_any (joins u.0) before)

-- one more line
abbrev pub with_line : Parsed → ScriptLine → Tables → Result Parsed ScriptCause
with_line s l t =
    unless BadFork (is_bad_fork s.lines (fork_of l))
    (unless BadJoin (is_bad_join s.lines (thread_of l) (join_of l))
    (Ok (record { names = t; lines = s.lines ++ l ∷ [] })))

-- after the content of line n, or the first cause that it has; an empty content says nothing
unfoldable pub after_content : Parsed → ℕ → List ℕ → Result Parsed ScriptCause
after_content s n bytes =
    if length bytes == 0 then Ok s
    else and_then (line_of bytes) (λ said.
    and_then (numbered_line s.names n said) (λ p. with_line s p.0 p.1))

-- ---- the whole text

abbrev pub next_line : ℕ → Result Parsed ScriptCause → (Parsed → Result Parsed ScriptFault)
    → Result Parsed ScriptFault
next_line n (Err cause) go = Err (record { line = n; cause = cause })
next_line n (Ok s) go = go s

-- the lines from number n on, or the first that has a cause
abbrev pub judge : Parsed → ℕ → List (List ℕ) → Result Parsed ScriptFault
judge s n [] = Ok s
judge s n (l ∷ ls) = next_line n (after_content s n (content l)) (λ t. judge t (n + 1) ls)

-- all lines of a text, numbered from 1, or the first that has a cause
abbrev pub script_of : Bounds → List ℕ → Result Parsed ScriptFault
script_of limits text = judge (begun limits) 1 (lines_of text)

-- ---- who is forked

-- the line names thread u: as its own, or as the one that it forks or joins
abbrev pub names_thread : ℕ → ScriptLine → Bool
names_thread u l = is_of u l || (forks u l || joins u l)

-- forks lead from thread 0 to thread u
pub data Reached (lines : List ScriptLine) : ℕ → Type 0 where
  -- thread 0 needs none
  main : Reached lines 0
  -- a line of a thread that is reached forks u
  forked : {t u : ℕ} (k : ℕ) (l : ScriptLine) → slice_get lines k ≡ Some l → is_of t l ≡ true
      → forks u l ≡ true → Reached lines t → Reached lines u

-- the line names only threads that are reached
abbrev pub NamesReached : List ScriptLine → ScriptLine → Type 0
NamesReached lines l = (u : ℕ) → names_thread u l ≡ true → Reached lines u

-- each line does
abbrev pub AllReached : List ScriptLine → Type 0
AllReached lines = (k : ℕ) (l : ScriptLine) → slice_get lines k ≡ Some l → NamesReached lines l

-- line n is the first that names a thread which is not reached
pub record IsFirstUnreached (lines : List ScriptLine) (n : ℕ) : Type 0 where
  pub place : ℕ
  pub line : ScriptLine
  pub thread : ℕ
  pub at : slice_get lines place ≡ Some line
  pub number : line.line ≡ n
  pub names : names_thread thread line ≡ true
  pub unreached : Reached lines thread → ⊥
  pub first : (k : ℕ) (l : ScriptLine) → k < place → slice_get lines k ≡ Some l → NamesReached lines l

-- ---- what every script promises

abbrev pub act_event : Act → Event
act_event (acts.One c) = record { thread = c.thread; op = c.op; site = c.site; value = c.arg }
act_event (acts.Swap u x site arg) = record { thread = u; op = ops.Store x; site = site; value = arg }

-- each thread is named so by one line at most
abbrev pub Once : (ScriptLine → Option ThreadId) → List ScriptLine → Type 0
Once of lines = (j k u : ℕ) (l m : ScriptLine) → slice_get lines j ≡ Some l → slice_get lines k ≡ Some m
    → is_thread u (of l) ≡ true → is_thread u (of m) ≡ true → j ≡ k

-- the lines keep the rules of forks and joins
pub record AreLegal (lines : List ScriptLine) : Type 0 where
  -- the first line is one of thread 0
  pub main : (l : ScriptLine) → slice_get lines 0 ≡ Some l → (thread_of l).0 ≡ 0
  -- thread 0 is not forked, and no other is forked twice
  pub fork_main : (k : ℕ) (l : ScriptLine) → slice_get lines k ≡ Some l → forks 0 l ≡ false
  pub fork_once : Once fork_of lines
  -- thread 0 is not joined, none joins itself, and none is joined twice
  pub join_main : (k : ℕ) (l : ScriptLine) → slice_get lines k ≡ Some l → joins 0 l ≡ false
  pub join_self : (k : ℕ) (l : ScriptLine) → slice_get lines k ≡ Some l → joins (thread_of l).0 l ≡ false
  pub join_once : Once join_of lines

-- the numbers of each line have names
abbrev pub AllNamed : Parsed → Type 0
AllNamed s = (k : ℕ) (l : ScriptLine) → slice_get s.lines k ≡ Some l → HasNames s.names (act_event l.act)

-- a script: its lines keep the rules, forks lead from thread 0 to each thread, and each number has a name
pub record IsScript (s : Parsed) : Type 0 where
  pub legal : AreLegal s.lines
  pub reached : AllReached s.lines
  pub named : AllNamed s

-- so far the lines keep the rules, and each number has a name; before the first line no thread has one
pub record IsDraft (s : Parsed) : Type 0 where
  pub legal : AreLegal s.lines
  pub named : AllNamed s
  pub fresh : s.lines ≡ [] → s.names.threads.names ≡ []

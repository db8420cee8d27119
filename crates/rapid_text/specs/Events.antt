-- What a line comes to: an event with its names numbered, or the cause why it has none.
use Rattle.std.specs.Prelude.{
  ◌≡◌,
  ℕ,
  ◌<◌,
  ◌==◌,
  List,
  length,
  Option,
  Some,
  None,
  Result,
  Ok,
  Err,
  IsOk,
  IsSome,
  if◌then◌else◌,
}
use Rattle.event_core.specs.declared.events.Op.{Op}
use Rattle.event_core.specs.declared.events.Op.TheVariants as ops
use Rattle.event_core.specs.declared.events.Event.{Event}
use Rattle.rapid_line.specs.declared.words.Word.{Word}
use Rattle.rapid_line.specs.declared.words.Word.TheVariants.{Load, Store, Acquire, Release, Fork, Join}
use Rattle.rapid_line.specs.declared.words.LineFault.{LineFault}
use Rattle.rapid_text.specs.declared.causes.Kind.{Kind}
use Rattle.rapid_text.specs.declared.causes.Kind.TheVariants as kinds
use Rattle.rapid_text.specs.declared.causes.Cause.{Cause}
use Rattle.rapid_text.specs.declared.causes.Cause.TheVariants as causes
-- the content of a line: the line without the CR at its end
pub use Rattle.rapid_line.specs.Cut.{content}
use Rattle.rapid_line.specs.Grammar.{NamedEvent}
use Rattle.rapid_line.specs.Reading.{line_of, and_then}
use Rattle.rapid_text.specs.Tables.{Tables, space, number_in, name_at}

-- what the argument of a word names
abbrev pub kind_of : Word → Kind
kind_of Load = kinds.Variable
kind_of Store = kinds.Variable
kind_of Acquire = kinds.Lock
kind_of Release = kinds.Lock
kind_of Fork = kinds.Thread
kind_of Join = kinds.Thread

-- the operation that a word says, on the thing with this number
abbrev pub op_of : Word → ℕ → Op
op_of Load n = ops.Load (record { 0 = n })
op_of Store n = ops.Store (record { 0 = n })
op_of Acquire n = ops.Acquire (record { 0 = n })
op_of Release n = ops.Release (record { 0 = n })
op_of Fork n = ops.Fork (record { 0 = n })
op_of Join n = ops.Join (record { 0 = n })

-- events of a text have the value 0
abbrev pub event_of : Word → ℕ → ℕ → ℕ → Event
event_of w thread target site =
    record { thread = record { 0 = thread }; op = op_of w target; site = record { 0 = site }; value = 0 }

-- the number of a name, or that there are too many of its kind
abbrev pub number_or_fault : Kind → Option (ℕ × Tables) → Result (ℕ × Tables) Cause
number_or_fault kind None = Err (causes.TooManyNames kind)
number_or_fault kind (Some p) = Ok p

-- the event of a named event, its names numbered in the order thread, argument, location
unfoldable pub named_event : Tables → NamedEvent → Result (Event × Tables) Cause
named_event t e =
    and_then (number_or_fault kinds.Thread (number_in t kinds.Thread e.thread)) (λ p.
    and_then (number_or_fault (kind_of e.word) (number_in p.1 (kind_of e.word) e.argument)) (λ q.
    and_then (number_or_fault kinds.Site (number_in q.1 kinds.Site e.location)) (λ r.
    Ok (event_of e.word p.0 q.0 r.0, r.1))))

abbrev pub some_event : Result (Event × Tables) Cause → Result (Option Event × Tables) Cause
some_event (Err f) = Err f
some_event (Ok p) = Ok (Some p.0, p.1)

abbrev pub event_or : Tables → Result NamedEvent LineFault → Result (Option Event × Tables) Cause
event_or t (Err f) = Err (causes.Line f)
event_or t (Ok e) = some_event (named_event t e)

-- what a content comes to, and the names after it: no event where it is empty
unfoldable pub reading : Tables → List ℕ → Result (Option Event × Tables) Cause
reading t bytes = if length bytes == 0 then Ok (None, t) else event_or t (line_of bytes)

-- what a line comes to is an event
abbrev pub HasEvent : Result (Option Event × Tables) Cause → Type 0
HasEvent (Ok p) = IsSome p.0
HasEvent (Err f) = ⊥

-- the cause is the one that was read; memory runs out only where none was
abbrev pub Fails : {Y : Type 0} → Cause → Result Y Cause → Type 0
Fails causes.OutOfMemory read = IsOk read
Fails causes.Read read = ⊥
Fails causes.Failed read = ⊥
Fails cause read = read ≡ Err cause

-- ---- an event's names

-- the word of an operation
abbrev pub word_of_op : Op → Word
word_of_op (ops.Load x) = Load
word_of_op (ops.Store x) = Store
word_of_op (ops.Acquire l) = Acquire
word_of_op (ops.Release l) = Release
word_of_op (ops.Fork u) = Fork
word_of_op (ops.Join u) = Join

-- the number that it names
abbrev pub target_of : Op → ℕ
target_of (ops.Load x) = x.0
target_of (ops.Store x) = x.0
target_of (ops.Acquire l) = l.0
target_of (ops.Release l) = l.0
target_of (ops.Fork u) = u.0
target_of (ops.Join u) = u.0

-- the named event that an event is, by the names with its numbers
abbrev pub named_by : Tables → Event → NamedEvent
named_by t e = record {
  thread = name_at t kinds.Thread e.thread.0;
  word = word_of_op e.op;
  argument = name_at t (kind_of (word_of_op e.op)) (target_of e.op);
  location = name_at t kinds.Site e.site.0;
}

-- each number of the event has a name
pub record HasNames (t : Tables) (e : Event) : Type 0 where
  pub thread : e.thread.0 < length (space t kinds.Thread).names
  pub target : target_of e.op < length (space t (kind_of (word_of_op e.op))).names
  pub site : e.site.0 < length (space t kinds.Site).names

-- an event of a text: its numbers have names, and its value is 0
pub record IsOfNames (t : Tables) (e : Event) : Type 0 where
  pub names : HasNames t e
  pub value : e.value ≡ 0

-- A content as it is read from left to right. That this is the grammar, and its fault the first cause,
-- is the law `one_reading`.
use Rattle.std.specs.Prelude.{◌≡◌, ℕ, ◌==◌, ◌||◌, Bool, true, false, List, length, Option, Some, None, Result}
use Rattle.std.specs.Prelude.{Ok, Err, nat_lt, if◌then◌else◌}
use Rattle.std.specs.Str.{bytes_eq}
use Rattle.rapid_line.specs.declared.words.Word.{Word}
use Rattle.rapid_line.specs.declared.words.Word.TheVariants.{Load, Store, Acquire, Release, Fork, Join}
use Rattle.rapid_line.specs.declared.words.LineFault.{LineFault}
use Rattle.rapid_line.specs.declared.words.LineFault.TheVariants.{LineTooLong, StrayCr, FewFields, ManyFields}
use Rattle.rapid_line.specs.declared.words.LineFault.TheVariants.{BadOp, EmptyName, LongName}
use Rattle.rapid_line.specs.declared.lines.NamedLine.{NamedLine}
use Rattle.rapid_line.specs.Cut.{has, cut, before_end}
use Rattle.rapid_line.specs.Grammar.{NamedEvent, spelling}

-- the word that is spelled so
unfoldable pub word_of : List ℕ → Option Word
word_of bytes =
    if bytes_eq bytes (spelling Load) then Some Load
    else (if bytes_eq bytes (spelling Store) then Some Store
    else (if bytes_eq bytes (spelling Acquire) then Some Acquire
    else (if bytes_eq bytes (spelling Release) then Some Release
    else (if bytes_eq bytes (spelling Fork) then Some Fork
    else (if bytes_eq bytes (spelling Join) then Some Join else None)))))

-- goes on with a value, or answers the fault
abbrev pub or_fault : {A B E : Type 0} → E → Option A → (A → Result B E) → Result B E
or_fault f None next = Err f
or_fault f (Some x) next = next x

-- goes on where the test is false, or answers the fault
abbrev pub unless : {B E : Type 0} → E → Bool → Result B E → Result B E
unless f true next = Err f
unless f false next = next

-- goes on with what was read, or answers its fault
abbrev pub and_then : {A B E : Type 0} → Result A E → (A → Result B E) → Result B E
and_then (Err f) next = Err f
and_then (Ok x) next = next x

-- the three fields
abbrev pub fields_of : List ℕ → Result (List ℕ × List ℕ × List ℕ) LineFault
fields_of bytes =
    or_fault FewFields (cut 124 bytes) (λ p.
    or_fault FewFields (cut 124 p.1) (λ q.
    unless ManyFields (has 124 q.1) (Ok (p.0, q.0, q.1))))

-- the word and its argument, of what follows the parenthesis: up to the ) at the end
abbrev pub argument_of : Word → List ℕ → Result (Word × List ℕ) LineFault
argument_of w rest = or_fault BadOp (before_end 41 rest) (λ argument. Ok (w, argument))

-- the word before the first ( and the argument after it
abbrev pub operation_of : List ℕ → Result (Word × List ℕ) LineFault
operation_of field =
    or_fault BadOp (cut 40 field) (λ p. or_fault BadOp (word_of p.0) (λ w. argument_of w p.1))

-- the named event, where its names have the lengths of names
abbrev pub names_of : List ℕ → List ℕ → Word → List ℕ → Result NamedEvent LineFault
names_of thread location w argument =
    unless EmptyName (length thread == 0 || length argument == 0)
    (unless LongName (nat_lt 255 (length thread) || nat_lt 255 (length argument) || nat_lt 255
    (length location))
    (Ok (record { thread = thread; word = w; argument = argument; location = location })))

-- the named event of a content, or the first cause why it has none
unfoldable pub line_of : List ℕ → Result NamedEvent LineFault
line_of bytes =
    unless LineTooLong (nat_lt 1024 (length bytes))
    (unless StrayCr (has 13 bytes)
    (and_then (fields_of bytes) (λ f.
    and_then (operation_of f.1) (λ o.
    names_of f.0 f.2 o.0 o.1))))

-- ---- what the code answers

-- the named event of a line's parts
abbrev pub named_of : NamedLine → NamedEvent
named_of line =
    record {
      thread = line.thread.now;
      word = line.word;
      argument = line.argument.now;
      location =
          line.location.now;
    }

-- the answer is what was read, seen so
abbrev pub Gives : {X Y E : Type 0} → (X → Y) → Result X E → Result Y E → Type 0
Gives view (Ok x) read = read ≡ Ok (view x)
Gives view (Err e) read = read ≡ Err e

abbrev pub ok_named : NamedEvent → Result NamedEvent LineFault
ok_named e = Ok e

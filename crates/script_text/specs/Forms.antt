-- What a line of a script says: `thread word argument`, or `thread word argument number`.
use Rattle.std.specs.Prelude.{
  ◌≡◌,
  ℕ,
  ◌||◌,
  ◌&&◌,
  ◌==◌,
  not,
  Bool,
  true,
  false,
  List,
  [],
  ◌∷◌,
  length,
  Option,
  Some,
  Result,
  Ok,
  Err,
  nat_lt,
  option_map,
  if◌then◌else◌,
}
use Rattle.std.specs.List.{list_all}
use Rattle.std.specs.Str.{bytes_eq}
use Rattle.rapid_line.specs.Cut.{has, cut}
use Rattle.rapid_line.specs.Grammar.{IsName}
use Rattle.rapid_line.specs.Reading.{or_fault, unless, word_of as trace_word}
use Rattle.rapid_line.specs.declared.words.Word.TheVariants as words
use Rattle.script_text.specs.Numbers.{number_of}
use Rattle.script_text.specs.declared.forms.Word.{Word}
use Rattle.script_text.specs.declared.forms.Word.TheVariants.{One, Swap}
use Rattle.script_text.specs.declared.forms.NamedAct.{NamedAct}
use Rattle.script_text.specs.declared.causes.ScriptCause.{ScriptCause}
use Rattle.script_text.specs.declared.causes.ScriptCause.TheVariants.{LineTooLong, BadLine, BadNumber}
use Rattle.script_text.specs.declared.causes.ScriptCause.TheVariants as causes

-- what a line says; the number is 0 where the word takes none
pub record SpelledAct : Type 0 where
  pub thread : List ℕ
  pub word : Word
  pub argument : List ℕ
  pub number : ℕ

-- the word that is spelled so: swap, or a word of a trace
unfoldable pub word_of : List ℕ → Option Word
word_of bytes =
    if bytes_eq bytes (115 ∷ 119 ∷ 97 ∷ 112 ∷ []) then Some Swap
    else option_map (λ w. One w) (trace_word bytes)

-- a number stands after the argument
abbrev pub takes_number : Word → Bool
takes_number (One words.Store) = true
takes_number (One w) = false
takes_number Swap = true

-- the byte may stand in a name: any but blank, |, LF and CR
abbrev pub is_name_byte : ℕ → Bool
is_name_byte b = not (b == 32) && not (b == 124) && not (b == 10) && not (b == 13)

-- a name is 1 to 255 of these bytes
abbrev pub is_name : List ℕ → Bool
is_name bytes = nat_lt 0 (length bytes) && nat_lt (length bytes) 256 && list_all is_name_byte bytes

-- the thread and the argument are names
pub record AreNames (said : SpelledAct) : Type 0 where
  pub thread : IsName said.thread
  pub argument : IsName said.argument

-- thread word argument
abbrev pub plain : List ℕ → Word → List ℕ → Result SpelledAct ScriptCause
plain thread w argument =
    unless BadLine (not (is_name thread) || not (is_name argument))
    (Ok (record { thread = thread; word = w; argument = argument; number = 0 }))

-- thread word argument number; the argument ends at the first blank, and no other follows
abbrev pub numbered : List ℕ → Word → List ℕ → Result SpelledAct ScriptCause
numbered thread w rest =
    or_fault BadLine (cut 32 rest) (λ p.
    unless BadLine (not (is_name thread) || not (is_name p.0) || has 32 p.1)
    (or_fault BadNumber (number_of p.1) (λ n.
    Ok (record { thread = thread; word = w; argument = p.0; number = n }))))

abbrev pub form : List ℕ → Word → List ℕ → Result SpelledAct ScriptCause
form thread w rest = if takes_number w then numbered thread w rest else plain thread w rest

-- what a content says, or the first cause why it has none of the forms; the thread ends at the first blank,
-- and the word at the second
unfoldable pub line_of : List ℕ → Result SpelledAct ScriptCause
line_of bytes =
    unless LineTooLong (nat_lt 1024 (length bytes))
    (unless BadLine (has 13 bytes)
    (or_fault BadLine (cut 32 bytes) (λ p.
    or_fault BadLine (cut 32 p.1) (λ q.
    or_fault BadLine (word_of q.0) (λ w. form p.0 w q.1)))))

-- ---- what the code answers

-- what a line's parts say
abbrev pub spelled_by : NamedAct → SpelledAct
spelled_by line =
    record { thread = line.thread.now; word = line.word; argument = line.argument.now; number = line.number }

-- the cause is the one that was read, unless memory ran out
abbrev pub Fails : {Y : Type 0} → ScriptCause → Result Y ScriptCause → Type 0
Fails causes.OutOfMemory read = Unit {0}
Fails causes.NoFork read = ⊥
Fails causes.Read read = ⊥
Fails cause read = read ≡ Err cause

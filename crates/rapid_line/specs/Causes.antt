-- Why a content has no named event: each cause by itself, and their order.
use Rattle.std.specs.Prelude.{◌≡◌, ℕ, ◌<◌, true, List, ◌∷◌, ◌++◌, length, ◌⊎◌, codes}
use Rattle.rapid_line.specs.declared.words.Word.{Word}
use Rattle.rapid_line.specs.declared.words.LineFault.{LineFault}
use Rattle.rapid_line.specs.declared.words.LineFault.TheVariants.{
  LineTooLong,
  StrayCr,
  FewFields,
  ManyFields,
  BadOp,
  EmptyName,
  LongName,
}
use Rattle.rapid_line.specs.Cut.{has, count, Lacks}
use Rattle.rapid_line.specs.Grammar.{NamedEvent, operation}

-- the content is three fields between two bars
pub record HasFields (bytes thread op location : List ℕ) : Type 0 where
  pub is : bytes ≡ thread ++ 124 ∷ (op ++ 124 ∷ location)
  pub thread_bar : Lacks 124 thread
  pub op_bar : Lacks 124 op
  pub location_bar : Lacks 124 location

-- there are three fields, and the one between the bars is no word(argument)
pub record HasBadOp (bytes : List ℕ) : Type 0 where
  pub thread : List ℕ
  pub op : List ℕ
  pub location : List ℕ
  pub fields : HasFields bytes thread op location
  pub bad : (w : Word) (argument : List ℕ) → op ≡ operation w argument → ⊥

-- there are three fields, and the one between the bars is word(argument)
pub record HasParts (bytes : List ℕ) (e : NamedEvent) : Type 0 where
  pub fields : HasFields bytes e.thread (operation e.word e.argument) e.location

-- and the thread or the argument is empty
pub record HasEmptyName (bytes : List ℕ) : Type 0 where
  pub named : NamedEvent
  pub parts : HasParts bytes named
  pub empty : (length named.thread ≡ 0) ⊎ (length named.argument ≡ 0)

-- and the thread, the argument or the location is too long
pub record HasLongName (bytes : List ℕ) : Type 0 where
  pub named : NamedEvent
  pub parts : HasParts bytes named
  pub long : (255 < length named.thread) ⊎ ((255 < length named.argument) ⊎ (255 < length named.location))

-- the cause applies to the content
abbrev pub Applies : List ℕ → LineFault → Type 0
Applies bytes LineTooLong = 1024 < length bytes
Applies bytes StrayCr = has 13 bytes ≡ true
Applies bytes FewFields = count 124 bytes < 2
Applies bytes ManyFields = 2 < count 124 bytes
Applies bytes BadOp = HasBadOp bytes
Applies bytes EmptyName = HasEmptyName bytes
Applies bytes LongName = HasLongName bytes

abbrev pub rank : LineFault → ℕ
rank LineTooLong = 1
rank StrayCr = 2
rank FewFields = 3
rank ManyFields = 4
rank BadOp = 5
rank EmptyName = 6
rank LongName = 7

-- the cause applies, and none before it does
pub record IsFirstCause (bytes : List ℕ) (f : LineFault) : Type 0 where
  pub applies : Applies bytes f
  pub first : (g : LineFault) → rank g < rank f → Applies bytes g → ⊥

-- the name of a cause
abbrev pub fault_word : LineFault → List ℕ
fault_word LineTooLong = codes "LineTooLong"
fault_word StrayCr = codes "StrayCr"
fault_word FewFields = codes "FewFields"
fault_word ManyFields = codes "ManyFields"
fault_word BadOp = codes "BadOp"
fault_word EmptyName = codes "EmptyName"
fault_word LongName = codes "LongName"

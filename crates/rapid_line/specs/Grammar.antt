-- The grammar of a line: `thread|word(argument)|location`.
use Rattle.std.specs.Prelude.{◌≡◌, ℕ, ◌<◌, ◌≤◌, List, [], ◌∷◌, ◌++◌, length}
use Rattle.rapid_line.specs.declared.words.Word.{Word}
use Rattle.rapid_line.specs.declared.words.Word.TheVariants.{Load, Store, Acquire, Release, Fork, Join}
use Rattle.rapid_line.specs.Cut.{Lacks}

-- a named event
pub record NamedEvent : Type 0 where
  pub thread : List ℕ
  pub word : Word
  pub argument : List ℕ
  pub location : List ℕ

-- r, w, acq, rel, fork, join
abbrev pub spelling : Word → List ℕ
spelling Load = 114 ∷ []
spelling Store = 119 ∷ []
spelling Acquire = 97 ∷ 99 ∷ 113 ∷ []
spelling Release = 114 ∷ 101 ∷ 108 ∷ []
spelling Fork = 102 ∷ 111 ∷ 114 ∷ 107 ∷ []
spelling Join = 106 ∷ 111 ∷ 105 ∷ 110 ∷ []

-- word(argument)
abbrev pub operation : Word → List ℕ → List ℕ
operation w argument = spelling w ++ 40 ∷ (argument ++ 41 ∷ [])

-- thread|word(argument)|location
abbrev pub content_of : NamedEvent → List ℕ
content_of e = e.thread ++ 124 ∷ (operation e.word e.argument ++ 124 ∷ e.location)

-- the bytes of a field: any but |, LF and CR, and 255 of them at most
pub record IsField (bytes : List ℕ) : Type 0 where
  pub bar : Lacks 124 bytes
  pub lf : Lacks 10 bytes
  pub cr : Lacks 13 bytes
  pub short : length bytes ≤ 255

-- a name is a field that is not empty
pub record IsName (bytes : List ℕ) : Type 0 where
  pub field : IsField bytes
  pub some : 0 < length bytes

-- the thread and the argument are names, and the location may be empty
pub record IsWellFormed (e : NamedEvent) : Type 0 where
  pub thread : IsName e.thread
  pub argument : IsName e.argument
  pub location : IsField e.location

-- the content has this named event
pub record IsNamed (bytes : List ℕ) (e : NamedEvent) : Type 0 where
  pub fits : IsWellFormed e
  pub is : bytes ≡ content_of e

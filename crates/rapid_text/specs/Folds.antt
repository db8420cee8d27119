-- The lines of a text, taken one after another by steps of one kind.
use Rattle.std.specs.Prelude.{◌≡◌, ℕ, ◌+◌, List, [], ◌∷◌, ◌++◌, length}
use Rattle.rapid_line.specs.Lines.{lines_of}

-- the lines, numbered from n on, lead from one state to another by a step for each
pub data Folds {S : Type 0} (Step : S → ℕ → List ℕ → S → Type 0) : ℕ → S → List (List ℕ) → S → Type 0 where
  none : {n : ℕ} {s : S} → Folds Step n s [] s
  one_more : {n : ℕ} {s t u : S} {line : List ℕ} {lines : List (List ℕ)} → Step s n line t
      → Folds Step (n + 1) t lines u → Folds Step n s (line ∷ lines) u

-- the lines, numbered from n on, up to the one that has this fault
pub record FaultAmong {S F : Type 0} (Step : S → ℕ → List ℕ → S → Type 0) (Stop : S → ℕ → List ℕ → F → Type 0)
    (n : ℕ) (s : S) (lines : List (List ℕ)) (f : F) : Type 0 where
  pub front : List (List ℕ)
  pub line : List ℕ
  pub others : List (List ℕ)
  pub before : S
  pub is : lines ≡ front ++ line ∷ others
  pub folds : Folds Step n s front before
  pub stops : Stop before (n + length front) line f

-- all lines of a text, numbered from 1
abbrev pub FoldsAll : {S : Type 0} → (S → ℕ → List ℕ → S → Type 0) → S → List ℕ → S → Type 0
FoldsAll Step s text t = Folds Step 1 s (lines_of text) t

-- one of them has this fault, and no line before it has one
abbrev pub FaultIn : {S F : Type 0} → (S → ℕ → List ℕ → S → Type 0) → (S → ℕ → List ℕ → F → Type 0) → S
    → List ℕ → F → Type 0
FaultIn Step Stop s text f = FaultAmong Step Stop 1 s (lines_of text) f

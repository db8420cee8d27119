-- A text that comes in pieces, or is pulled from an input: its lines are folded as they end.
use Rattle.std.specs.Prelude.{◌≡◌, ℕ, ◌≤◌, ◌+◌, ◌*◌, List, ◌++◌, length, Option, Some, None, IfSome}
use Rattle.rapid_line.specs.Lines.{Lines, lines_of, to_come}
use Rattle.rapid_text.specs.Folds.{Folds, FaultAmong}
use Rattle.rapid_text.specs.Taking.{Advances, lines_place}

-- it holds of some whole text: the one that the input had left, where it tells this
pub record OfText (left : Option (List ℕ)) (Holds : List ℕ → Type 0) : Type 0 where
  pub text : List ℕ
  pub is_left : IfSome left (λ whole. text ≡ whole)
  pub holds : Holds text

-- all bytes but the rest were taken, and the lines that ended were folded
pub record Takes {S : Type 0} (Step : S → ℕ → List ℕ → S → Type 0) (s : S) (old : Lines)
    (bytes rest : List ℕ) (t : S) (new : Lines) : Type 0 where
  pub ended : List (List ℕ)
  -- whatever follows, they are the next lines of the text, and the others come after them
  pub law : (more : List ℕ) → to_come old (bytes ++ more) ≡ ended ++ to_come new (rest ++ more)
  pub folds : Folds Step old.unfinished s ended t
  pub number : new.unfinished ≡ old.unfinished + length ended
  pub advances : Advances (lines_place old) bytes rest (lines_place new)

-- whatever follows the bytes, one of the lines to come has this fault, and no line before it has one
abbrev pub StopsIn : {S F : Type 0} → (S → ℕ → List ℕ → S → Type 0) → (S → ℕ → List ℕ → F → Type 0) → S
    → Lines → List ℕ → F → Type 0
StopsIn Step Stop s old bytes f =
    (more : List ℕ) → FaultAmong Step Stop old.unfinished s (to_come old (bytes ++ more)) f

-- the lines that ended in these first bytes of a text were folded; whatever follows, line n is the next
pub record FoldsEnded {S : Type 0} (Step : S → ℕ → List ℕ → S → Type 0) (s : S) (came : List ℕ) (n : ℕ)
    (t : S) : Type 0 where
  pub ended : List (List ℕ)
  pub folds : Folds Step 1 s ended t
  pub next : n ≡ 1 + length ended
  pub law : (more : List ℕ) → (later : List (List ℕ)) × (lines_of (came ++ more) ≡ ended ++ later)

-- where the bytes that are left are known, they became fewer by no more than 65,536 for each turn
abbrev pub WithinTurns : ℕ → Option (List ℕ) → Option (List ℕ) → Type 0
WithinTurns turns None rest = Unit {0}
WithinTurns turns (Some left) None = ⊥
WithinTurns turns (Some left) (Some rest) = length left ≤ length rest + 65536 * turns

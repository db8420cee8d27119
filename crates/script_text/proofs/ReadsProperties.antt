-- Lines that are read one after another, and where the reading stops.
use Rattle.std.proofs.Common.{◌≡◌, ℕ, ◌+◌, ◌<◌, ◌≤◌, ◌++◌, List, [], ◌∷◌, length, Ok, Err, refl, ap}
use Rattle.std.proofs.Common.{◌∙◌, sym, arith, ne_eqb, lt-ltb}
use Rattle.std.specs.Prelude.{Result}
use Rattle.rapid_line.specs.Cut.{content}
use Rattle.rapid_line.specs.Lines.{most_kept}
use Rattle.rapid_text.proofs.LongLines.{content_long}
use Rattle.rapid_text.specs.Folds.{Folds}
use Rattle.rapid_text.specs.Folds.Folds.{none, one_more}
use Rattle.script_text.specs.declared.causes.ScriptCause.{ScriptCause}
use Rattle.script_text.specs.declared.causes.ScriptCause.TheVariants as causes
use Rattle.script_text.specs.declared.causes.ScriptFault.{ScriptFault}
use Rattle.script_text.specs.Forms.{line_of}
use Rattle.script_text.specs.Scripts.{Parsed, judge, next_line, after_content}
use Rattle.script_text.specs.Readings.{Reads, Stops}

-- what the first line comes to, and then the others
first_judged : (s : Parsed) (n : ℕ) (line : List ℕ) (others : List (List ℕ)) (r : Result Parsed ScriptCause)
    → after_content s n (content line) ≡ r
    → judge s n (line ∷ others) ≡ next_line n r (λ t. judge t (n + 1) others)
first_judged s n line others r is =
    ap (λ (x : Result Parsed ScriptCause). next_line n x (λ t. judge t (n + 1) others)) is

-- lines that were read, and then the others
pub reads_judged : (n m : ℕ) (s t : Parsed) (lines later : List (List ℕ)) → Folds Reads n s lines t
    → m ≡ n + length lines → judge s n (lines ++ later) ≡ judge t m later
reads_judged n m s t _ later none at = ap (λ (i : ℕ). judge s i later) (omega (arith, at))
reads_judged n m s t _ later (one_more {t = u} {line = line} {lines = ls} h rest) at =
    first_judged s n line (ls ++ later) (Ok u) h
    ∙ reads_judged (n + 1) m u t ls later rest (omega (arith, at))

-- ---- faults

abbrev from_err : ScriptFault → Result Parsed ScriptFault → ScriptFault
from_err f (Ok x) = f
from_err f (Err g) = g

next_from : (n : ℕ) (r : Result Parsed ScriptCause) (go : Parsed → Result Parsed ScriptFault)
    (g : ScriptFault)
    → ((t : Parsed) → go t ≡ Err g → n ≤ g.line) → next_line n r go ≡ Err g → n ≤ g.line
next_from n (Err cause) go g more e =
    let same : n ≡ g.line = ap (λ (r : Result Parsed ScriptFault). (from_err g r).line) e in
    omega (arith, same)
next_from n (Ok t) go g more e = more t e

-- no fault comes before the first line
pub judge_from : (s : Parsed) (n : ℕ) (ls : List (List ℕ)) (g : ScriptFault) → judge s n ls ≡ Err g
    → n ≤ g.line
judge_from s n [] g e = absurd cc
judge_from s n (l ∷ ls) g e = next_from n (after_content s n (content l)) (λ t. judge t (n + 1) ls) g
    (λ t d. let h = judge_from t (n + 1) ls g d in omega (arith, h)) e

-- the lines stop at the first one, with its cause
pub stop_found : (s : Parsed) (n : ℕ) (line : List ℕ) (others : List (List ℕ)) (f : ScriptFault) → f.line ≡ n
    → after_content s n (content line) ≡ Err f.cause → judge s n (line ∷ others) ≡ Err f
stop_found s n line others f at is =
    first_judged s n line others (Err f.cause) is
    ∙ ap (λ (m : ℕ). Err (record { line = m; cause = f.cause })) (sym at)

line_long : (bytes : List ℕ) → 1024 < length bytes → line_of bytes ≡ Err causes.LineTooLong
unfolding line_of
line_long bytes h = rw (lt-ltb 1024 (length bytes) h) refl

long_content : (s : Parsed) (n : ℕ) (bytes : List ℕ) → 1024 < length bytes
    → after_content s n bytes ≡ Err causes.LineTooLong
unfolding after_content
long_content s n bytes h = rw (ne_eqb (length bytes) 0 (λ z. omega arith), line_long bytes h) refl

-- a line that is too long has that cause
pub long_stops : (s : Parsed) (n : ℕ) (line : List ℕ) → most_kept < length line
    → Stops s n line (record { line = n; cause = causes.LineTooLong })
long_stops s n line h = record { at = refl; why = long_content s n (content line) (content_long line h) }

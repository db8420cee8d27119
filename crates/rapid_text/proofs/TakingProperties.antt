-- How far the steps of a cutter take a text, and where a text stands that was not read to its end.
use Rattle.std.proofs.Common.{◌≡◌, ℕ, ◌+◌, ◌≤◌, List, [], ◌∷◌, ◌++◌, length, length-append, Option}
use Rattle.std.proofs.Common.{refl, sym, ap, subst, ◌∙◌, append_assoc, append-nil, arith}
use Rattle.std.specs.Io.KnownBytes.{Consumes}
use Rattle.rapid_line.specs.Cut.{Lacks, count, after_last}
use Rattle.rapid_line.specs.Lines.{Lines, most_kept, Cuts, Keeps}
use Rattle.rapid_line.proofs.CutProperties.{after_last-append, after_last-end, after_last-Lacks, count-append}
use Rattle.rapid_line.proofs.CutProperties.{count-Lacks, IsCut-at}
use Rattle.rapid_text.specs.Taking.{Place, lines_place, start, AreUnended, Advances, Truncates}

-- all these bytes were taken: each LF ended a line, and what follows the last one is kept
pub record Took (old : Place) (bytes : List ℕ) (new : Place) : Type 0 where
  pub lines : new.unfinished ≡ old.unfinished + count 10 bytes
  pub kept : new.kept ≡ after_last 10 (old.kept ++ bytes)
  pub taken : new.taken ≡ old.taken + length bytes

-- a line that ended
pub cuts_took : {s t : Lines} {piece line rest : List ℕ} (c : Cuts s piece line rest t)
    → Took (lines_place s) (c.end ++ 10 ∷ []) (lines_place t)
cuts_took {s} {piece = piece} {rest = rest} c =
    let cut = IsCut-at 10 piece (c.end, rest) c.first in
    let one : count 10 (10 ∷ []) ≡ 1 = refl in
    let parts = count-append 10 c.end (10 ∷ []) in
    let none = count-Lacks 10 c.end cut.lacks in
    let long = length-append c.end (10 ∷ []) in
    record {
      lines = omega (arith, c.unfinished, parts, none, one);
      kept = c.kept ∙ sym (ap (λ (b : List ℕ). after_last 10 b) (sym (append_assoc s.kept c.end (10 ∷ [])))
          ∙ after_last-end 10 (s.kept ++ c.end));
      taken = omega (arith, c.taken, long);
    }

-- no line ended
pub keeps_took : {s t : Lines} {piece : List ℕ} → Keeps s piece t → Lacks 10 t.kept
    → Took (lines_place s) piece (lines_place t)
keeps_took {t = t} {piece = piece} k lf = record {
  lines = let none = count-Lacks 10 piece k.unended in omega (arith, k.unfinished, none);
  kept = sym (after_last-Lacks 10 t.kept lf) ∙ ap (λ (b : List ℕ). after_last 10 b) k.kept;
  taken = k.taken;
}

-- what follows the last LF of all that was taken before the rest
last_kept : {p q : Place} {front : List ℕ} (rest : List ℕ) → Took p front q
    → after_last 10 (q.kept ++ rest) ≡ after_last 10 (p.kept ++ (front ++ rest))
last_kept {p} {front = front} rest h =
    ap (λ (b : List ℕ). after_last 10 (b ++ rest)) h.kept
    ∙ sym (after_last-append 10 (p.kept ++ front) rest)
    ∙ ap (λ (b : List ℕ). after_last 10 b) (append_assoc p.kept front rest)

pub took_more : {p q r : Place} {front more : List ℕ} → Took p front q → Took q more r
    → Took p (front ++ more) r
took_more {front = front} {more = more} h k = record {
  lines = let both = count-append 10 front more in omega (arith, h.lines, k.lines, both);
  kept = k.kept ∙ last_kept more h;
  taken = let both = length-append front more in omega (arith, h.taken, k.taken, both);
}

-- bytes that were taken, and the rest
took_advances : {p q : Place} {front : List ℕ} (rest : List ℕ) → Took p front q → AreUnended q.kept
    → Advances p (front ++ rest) rest q
took_advances {front = front} rest h few = record {
  lines = let both = count-append 10 front rest in omega (arith, h.lines, both);
  kept = last_kept rest h;
  unended = λ _. few;
  taken = let both = length-append front rest in omega (arith, h.taken, both);
}

pub cuts_advance : (s t : Lines) (piece line rest : List ℕ) → Cuts s piece line rest t
    → Advances (lines_place s) piece rest (lines_place t)
cuts_advance s t piece line rest c =
    let whole : (c.end ++ 10 ∷ []) ++ rest ≡ piece =
    append_assoc c.end (10 ∷ []) rest ∙ sym (IsCut-at 10 piece (c.end, rest) c.first).is in
    subst (λ (b : List ℕ). Advances (lines_place s) b rest (lines_place t)) whole
    (took_advances rest (cuts_took c) (subst (λ (b : List ℕ). AreUnended b) (sym c.kept) (refl, omega arith)))

pub keeps_advance : (s t : Lines) (piece : List ℕ) → Keeps s piece t → AreUnended t.kept
    → Advances (lines_place s) piece [] (lines_place t)
keeps_advance s t piece k few =
    subst (λ (b : List ℕ). Advances (lines_place s) b [] (lines_place t)) (append-nil piece)
    (took_advances [] (keeps_took k few.0) few)

-- ---- pieces, one after another

pub advances_none : (p : Place) (bytes : List ℕ) → Advances p bytes bytes p
advances_none p bytes = record { lines = refl; kept = refl; unended = λ h. h; taken = refl }

pub advances_more : (p q r : Place) (bytes rest left : List ℕ) → Advances p bytes rest q
    → Advances q rest left r → Advances p bytes left r
advances_more p q r bytes rest left h k = record {
  lines = k.lines ∙ h.lines;
  kept = k.kept ∙ h.kept;
  unended = λ u. k.unended (h.unended u);
  taken = k.taken ∙ h.taken;
}

-- what was not taken yet changes nothing
pub advances_before : (p q : Place) (front rest : List ℕ) → Advances p front [] q
    → Advances p (front ++ rest) rest q
advances_before p q front rest h = record {
  lines = let both = count-append 10 front rest in omega (arith, h.lines, both);
  kept = after_last-append 10 q.kept rest
      ∙ ap (λ (t : List ℕ). after_last 10 (after_last 10 t ++ rest)) (sym (append-nil q.kept))
      ∙ ap (λ (t : List ℕ). after_last 10 (t ++ rest)) h.kept
      ∙ sym (after_last-append 10 (p.kept ++ front) rest)
      ∙ ap (λ (t : List ℕ). after_last 10 t) (append_assoc p.kept front rest);
  unended = h.unended;
  taken = let both = length-append front rest in omega (arith, h.taken, both);
}

-- a text of which these bytes came and were taken, where the reading stopped
pub truncates : (left rest : Option (List ℕ)) (Why : List ℕ → Type 0) (now : Place) (So : List ℕ → Type 0)
    (came : List ℕ) → Consumes left rest came → Why came → Advances start came [] now → So came
    → Truncates left rest Why now.unfinished So
truncates left rest Why now So came bytes why took so =
    let unended = took.unended (refl, omega arith) in
    let kept : now.kept ≡ after_last 10 came =
    sym (after_last-Lacks 10 now.kept unended.0)
    ∙ ap (λ (b : List ℕ). after_last 10 b) (sym (append-nil now.kept)) ∙ took.kept in
    record {
      came = came;
      bytes = bytes;
      why = why;
      at = let lines = took.lines in omega (arith, lines);
      short = subst (λ (b : List ℕ). length b ≤ most_kept) kept unended.1;
      so = so;
    }

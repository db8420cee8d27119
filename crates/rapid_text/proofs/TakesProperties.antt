-- Pieces whose lines are taken, one piece after another, are one piece.
use Rattle.std.proofs.Common.{◌≡◌, ℕ, ◌<◌, ◌≤◌, List, [], ◌∷◌, ◌++◌, length, length-append, append_assoc}
use Rattle.std.proofs.Common.{arith, ap, refl, subst, sym, ◌∙◌}
use Rattle.rapid_line.specs.Cut.{Lacks}
use Rattle.rapid_line.specs.Lines.{Lines, most_kept, lines_of, to_come, Cuts, Keeps, IsLastLine, IsTooLong}
use Rattle.rapid_line.proofs.LinesProperties.{keeps_law}
use Rattle.rapid_text.specs.Folds.{Folds, FaultAmong}
use Rattle.rapid_text.specs.Folds.Folds.{none, one_more}
use Rattle.rapid_text.specs.Feeding.{StopsIn, Takes}
use Rattle.rapid_text.specs.Taking.{lines_place}
use Rattle.rapid_text.proofs.FoldsProperties.{folds_both, fault_first, fault_later}
use Rattle.rapid_text.proofs.TakingProperties.{advances_none, advances_more, advances_before}
use Rattle.rapid_text.proofs.TakingProperties.{cuts_advance, keeps_advance}

module _ {S : Type 0} (Step : S → ℕ → List ℕ → S → Type 0) where
  -- nothing yet
  pub takes_none : (s : S) (c : Lines) (bytes : List ℕ) → Takes Step s c bytes bytes s c
  takes_none s c bytes = record {
    ended = [];
    law = λ more. refl;
    folds = none;
    number = omega arith;
    advances = advances_none (lines_place c) bytes;
  }

  -- some bytes, and then some more
  pub takes_more : {s t u : S} {c d e : Lines} {bytes rest left : List ℕ} → Takes Step s c bytes rest t d
      → Takes Step t d rest left u e → Takes Step s c bytes left u e
  takes_more {s} {t} {u} {c} {d} {e} {bytes} {rest} {left} p q = record {
    ended = p.ended ++ q.ended;
    law = λ more. p.law more ∙ ap (λ (ls : List (List ℕ)). p.ended ++ ls) (q.law more)
        ∙ sym (append_assoc p.ended q.ended (to_come e (left ++ more)));
    folds = folds_both Step c.unfinished d.unfinished s t u p.ended q.ended p.folds p.number q.folds;
    number = let both = length-append p.ended q.ended in omega (arith, p.number, q.number, both);
    advances = advances_more (lines_place c) (lines_place d) (lines_place e) bytes rest left p.advances
        q.advances;
  }

  -- what was not taken yet changes nothing
  pub takes_before : {s t : S} {c d : Lines} {front : List ℕ} (rest : List ℕ)
      → Takes Step s c front [] t d → Takes Step s c (front ++ rest) rest t d
  takes_before {c = c} {d = d} {front = front} rest p = record {
    ended = p.ended;
    law = λ more. ap (λ (text : List ℕ). to_come c text) (append_assoc front rest more)
        ∙ p.law (rest ++ more);
    folds = p.folds;
    number = p.number;
    advances = advances_before (lines_place c) (lines_place d) front rest p.advances;
  }

  -- a line that ended
  pub takes_line : {s t : S} {c d : Lines} {piece line rest : List ℕ} → Cuts c piece line rest d
      → Step s c.unfinished line t → Takes Step s c piece rest t d
  takes_line {c = c} {d = d} {piece = piece} {line = line} {rest = rest} cut h = record {
    ended = line ∷ [];
    law = cut.law;
    folds = one_more h none;
    number = cut.unfinished;
    advances = cuts_advance c d piece line rest cut;
  }

  -- no line ended
  pub takes_rest : {s : S} {c d : Lines} {piece : List ℕ} → Keeps c piece d → Lacks 10 d.kept
      → length d.kept ≤ most_kept → Takes Step s c piece [] s d
  takes_rest {c = c} {d = d} {piece = piece} k lf few = record {
    ended = [];
    law = keeps_law k;
    folds = none;
    number = let same = k.unfinished in omega (arith, same);
    advances = keeps_advance c d piece k (lf, few);
  }

  -- the text ended, and no line was left
  pub ends_none : (s : S) (c : Lines) → c.kept ≡ [] → Folds Step c.unfinished s (to_come c []) s
  ends_none s c is =
      subst (λ (kept : List ℕ). Folds Step c.unfinished s (lines_of (kept ++ [])) s) (sym is) none

  -- its last line has no LF
  pub ends_line : {s t : S} {c d : Lines} {line : List ℕ} → IsLastLine c line d → Step s c.unfinished line t
      → Folds Step c.unfinished s (to_come c []) t
  ends_line {s} {t} {c} last h =
      subst (λ (ls : List (List ℕ)). Folds Step c.unfinished s ls t) (sym last.law) (one_more h none)

  module _ {F : Type 0} (Stop : S → ℕ → List ℕ → F → Type 0) where
    -- it stops at a line that ended
    pub stops_at : {s : S} {c d : Lines} {piece line rest : List ℕ} {f : F} → Cuts c piece line rest d
        → Stop s c.unfinished line f → StopsIn Step Stop s c piece f
    stops_at {s} {c} {d} {piece} {line} {rest} {f} cut h more =
        fault_first Step Stop c.unfinished s line (to_come d (rest ++ more)) (to_come c (piece ++ more)) f
        (cut.law more) h

    -- it stops at a line that is too long
    pub stops_long : {s : S} {c : Lines} {piece : List ℕ} {f : F} → IsTooLong c piece
        → ((line : List ℕ) → most_kept < length line → Stop s c.unfinished line f)
        → StopsIn Step Stop s c piece f
    stops_long {s} {c} {piece} {f} long h more =
        let next = long.law more in
        fault_first Step Stop c.unfinished s next.0 next.1 (to_come c (piece ++ more)) f next.2
        (h next.0 next.3)

    -- it stops later
    pub stops_later : {s t : S} {c d : Lines} {bytes rest : List ℕ} {f : F} → Takes Step s c bytes rest t d
        → StopsIn Step Stop t d rest f → StopsIn Step Stop s c bytes f
    stops_later {s} {t} {c} {d} {bytes} {rest} {f} p q more =
        subst (λ (ls : List (List ℕ)). FaultAmong Step Stop c.unfinished s ls f) (sym (p.law more))
        (fault_later Step Stop c.unfinished d.unfinished s t p.ended (to_come d (rest ++ more)) f p.folds
        p.number (q more))

    -- it stops at the last line
    pub stops_last : {s : S} {c d : Lines} {line : List ℕ} {f : F} → IsLastLine c line d
        → Stop s c.unfinished line f → FaultAmong Step Stop c.unfinished s (to_come c []) f
    stops_last {s} {c} {line = line} {f = f} last h =
        fault_first Step Stop c.unfinished s line [] (to_come c []) f last.law h

-- A text whose pieces are pulled and taken, one after another: where it ends, and where it stops.
use Rattle.std.proofs.Common.{ℕ, ◌+◌, ◌*◌, ◌<◌, ◌≤◌, List, [], ◌++◌, length, Option, Some, None, arith}
use Rattle.std.proofs.Common.{length-append, refl, sym, subst}
use Rattle.std.proofs.KnownBytes.{Consumes-all, Consumes-nil, Consumes-trans}
use Rattle.std.specs.Io.KnownBytes.{Consumes, IsAtEnd}
use Rattle.rapid_line.specs.Lines.{Lines, most, no_bytes, to_come}
use Rattle.rapid_text.specs.Folds.{Folds, FaultAmong, FoldsAll, FaultIn}
use Rattle.rapid_text.specs.Feeding.{FoldsEnded, OfText, StopsIn, Takes}
use Rattle.rapid_text.specs.Taking.{Truncates, lines_place}
use Rattle.rapid_text.specs.Turns.{most_turns}
use Rattle.rapid_text.proofs.FoldsProperties.{folds_both, fault_later}
use Rattle.rapid_text.proofs.TakesProperties.{takes_before, takes_more, takes_none, stops_later}
use Rattle.rapid_text.proofs.TakingProperties.{truncates}

-- these bytes came of a text in so many turns, one at least in each, and were taken from its first byte on
pub record Fed {S : Type 0} (Step : S → ℕ → List ℕ → S → Type 0) (left rest : Option (List ℕ)) (turns : ℕ)
    (s t : S) (now : Lines) : Type 0 where
  pub bytes : List ℕ
  pub came : Consumes left rest bytes
  pub few : length bytes ≤ 65536 * turns
  pub some : turns ≤ length bytes
  pub takes : Takes Step s no_bytes bytes [] t now

-- the bytes begin the text that was left, where it is known
begins : (P : List ℕ → Type 0) (left rest : Option (List ℕ)) (bytes : List ℕ) → Consumes left rest bytes
    → ((more : List ℕ) → P (bytes ++ more)) → OfText left P
begins P None rest bytes came h = record { text = bytes ++ []; is_left = tt; holds = h [] }
begins P (Some text) None bytes came h = absurd came
begins P (Some text) (Some rest) bytes came h =
    record { text = bytes ++ rest; is_left = sym came; holds = h rest }

module _ {S : Type 0} (Step : S → ℕ → List ℕ → S → Type 0) where
  -- before the first pull
  pub fed_none : (left : Option (List ℕ)) (s : S) → Fed Step left left 0 s s no_bytes
  fed_none left s = record {
    bytes = [];
    came = Consumes-nil left;
    few = omega arith;
    some = omega arith;
    takes = takes_none Step s no_bytes [];
  }

  -- one more piece
  pub fed_more : {left mid rest : Option (List ℕ)} {turns : ℕ} {s t u : S} {c d : Lines} (piece : List ℕ)
      → Fed Step left mid turns s t c → Consumes mid rest piece → 0 < length piece → length piece ≤ 65536
      → Takes Step t c piece [] u d → Fed Step left rest (turns + 1) s u d
  fed_more {left} {mid} {rest} piece p came some few takes =
      let parts = length-append p.bytes piece in
      record {
        bytes = p.bytes ++ piece;
        came = Consumes-trans left mid rest p.bytes piece p.came came;
        few = omega (arith, parts, p.few, few);
        some = omega (arith, parts, p.some, some);
        takes = takes_more Step (takes_before Step piece p.takes) takes;
      }

  -- where a turn is left, there is room for the next piece
  pub fed_room : {left rest : Option (List ℕ)} {n : ℕ} {s t : S} {c : Lines} (turns : ℕ) (piece : List ℕ)
      → Fed Step left rest n s t c → n < turns → turns ≤ most_turns → length piece ≤ 65536
      → c.taken + length piece ≤ most
  fed_room turns piece p within all few =
      let taken = p.takes.advances.taken in
      omega (arith, taken, p.few, within, all, few)

  -- the text ended
  pub fed_whole : {left mid : Option (List ℕ)} (rest : Option (List ℕ)) {n : ℕ} {s t u : S} {c : Lines}
      → Fed Step left mid n s t c → Consumes mid rest [] → IsAtEnd rest
      → Folds Step c.unfinished t (to_come c []) u → OfText left (λ text. FoldsAll Step s text u)
  fed_whole {left} {mid} rest {s = s} {t = t} {u = u} {c = c} p came end h = record {
    text = p.bytes ++ [];
    is_left = Consumes-all left rest (p.bytes ++ []) [] (p.bytes ++ [])
        (Consumes-trans left mid rest p.bytes [] p.came came) end refl;
    holds = subst (λ (ls : List (List ℕ)). Folds Step 1 s ls u) (sym (p.takes.law []))
        (folds_both Step 1 c.unfinished s t u p.takes.ended (to_come c []) p.takes.folds p.takes.number h);
  }

  -- the text was not read to its end
  pub fed_cut : {left mid rest : Option (List ℕ)} {n : ℕ} {s t : S} {c : Lines} (Why : List ℕ → Type 0)
      (p : Fed Step left mid n s t c) → Consumes left rest p.bytes → Why p.bytes
      → Truncates left rest Why c.unfinished (λ came. FoldsEnded Step s came c.unfinished t)
  fed_cut {left} {mid} {rest} {s = s} {t = t} {c = c} Why p came why =
      truncates left rest Why (lines_place c) (λ bytes. FoldsEnded Step s bytes c.unfinished t) p.bytes came
      why p.takes.advances (record {
        ended = p.takes.ended;
        folds = p.takes.folds;
        next = p.takes.number;
        law = λ more. (to_come c more, p.takes.law more);
      })

  module _ {F : Type 0} (Stop : S → ℕ → List ℕ → F → Type 0) where
    -- the sink stopped at a line of the next piece
    pub fed_stops : {left mid : Option (List ℕ)} (rest : Option (List ℕ)) {n : ℕ} {s t : S} {c : Lines}
        {f : F} (piece : List ℕ) → Fed Step left mid n s t c → Consumes mid rest piece
        → StopsIn Step Stop t c piece f → OfText left (λ text. FaultIn Step Stop s text f)
    fed_stops {left} {mid} rest {s = s} {f = f} piece p came h =
        begins (λ text. FaultIn Step Stop s text f) left rest (p.bytes ++ piece)
        (Consumes-trans left mid rest p.bytes piece p.came came)
        (stops_later Step Stop (takes_before Step piece p.takes) h)

    -- the sink stopped at the last line, which has no LF
    pub fed_last : {left mid : Option (List ℕ)} (rest : Option (List ℕ)) {n : ℕ} {s t : S} {c : Lines} {f : F}
        → Fed Step left mid n s t c → Consumes mid rest [] → IsAtEnd rest
        → FaultAmong Step Stop c.unfinished t (to_come c []) f
        → OfText left (λ text. FaultIn Step Stop s text f)
    fed_last {left} {mid} rest {s = s} {t = t} {c = c} {f = f} p came end h = record {
      text = p.bytes ++ [];
      is_left = Consumes-all left rest (p.bytes ++ []) [] (p.bytes ++ [])
          (Consumes-trans left mid rest p.bytes [] p.came came) end refl;
      holds = subst (λ (ls : List (List ℕ)). FaultAmong Step Stop 1 s ls f) (sym (p.takes.law []))
          (fault_later Step Stop 1 c.unfinished s t p.takes.ended (to_come c []) f p.takes.folds
          p.takes.number h);
    }

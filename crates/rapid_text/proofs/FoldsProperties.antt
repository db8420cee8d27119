-- Lines that are folded, one list after another.
use Rattle.std.proofs.Common.{◌≡◌, ℕ, ◌+◌, List, [], ◌∷◌, ◌++◌, length, length-append, append_assoc, arith}
use Rattle.std.proofs.Common.{ap, subst, sym, ◌∙◌}
use Rattle.rapid_text.specs.Folds.{Folds, FaultAmong}
use Rattle.rapid_text.specs.Folds.Folds.{none, one_more}

module _ {S : Type 0} (Step : S → ℕ → List ℕ → S → Type 0) where
  -- some lines, and then some more
  pub folds_both : (n m : ℕ) (s t u : S) (front back : List (List ℕ)) → Folds Step n s front t
      → m ≡ n + length front → Folds Step m t back u → Folds Step n s (front ++ back) u
  folds_both n m s t u _ back none at k = subst (λ (i : ℕ). Folds Step i s back u) (omega (arith, at)) k
  folds_both n m s t u _ back (one_more {t = v} {lines = ls} h rest) at k =
      one_more h (folds_both (n + 1) m v t u ls back rest (omega (arith, at)) k)

  module _ {F : Type 0} (Stop : S → ℕ → List ℕ → F → Type 0) where
    -- a fault among the lines that follow
    pub fault_later : (n m : ℕ) (s t : S) (front lines : List (List ℕ)) (f : F) → Folds Step n s front t
        → m ≡ n + length front → FaultAmong Step Stop m t lines f
        → FaultAmong Step Stop n s (front ++ lines) f
    fault_later n m s t front lines f h at k = record {
      front = front ++ k.front;
      line = k.line;
      others = k.others;
      before = k.before;
      is = ap (λ (ls : List (List ℕ)). front ++ ls) k.is
          ∙ sym (append_assoc front k.front (k.line ∷ k.others));
      folds = folds_both n m s t k.before front k.front h at k.folds;
      stops = subst (λ (i : ℕ). Stop k.before i k.line f)
          (let both = length-append front k.front in omega (arith, at, both)) k.stops;
    }

    -- a fault of the first line
    pub fault_first : (n : ℕ) (s : S) (line : List ℕ) (others lines : List (List ℕ)) (f : F)
        → lines ≡ line ∷ others → Stop s n line f → FaultAmong Step Stop n s lines f
    fault_first n s line others lines f is h = record {
      front = [];
      line = line;
      others = others;
      before = s;
      is = is;
      folds = none;
      stops = subst (λ (i : ℕ). Stop s i line f) (omega arith) h;
    }

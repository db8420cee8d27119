-- Bytes that are written in several puts.
use Rattle.std.proofs.Common.{◌≡◌, ℕ, List, [], ◌++◌, take, drop, Option, refl, sym, ap, ◌∙◌, append_assoc}
use Rattle.std.proofs.Common.{take-append-drop}
use Rattle.std.specs.Io.KnownBytes.{Appends}
use Rattle.std.proofs.KnownBytes.{Appends-nil, Appends-trans}

-- the front of the bytes was written, and the rest waits
pub record Written (old now : Option (List ℕ)) (bytes rest : List ℕ) : Type 0 where
  pub front : List ℕ
  pub is : bytes ≡ front ++ rest
  pub appended : Appends old now front

pub nothing_yet : (old : Option (List ℕ)) (bytes : List ℕ) → Written old old bytes bytes
nothing_yet old bytes = record { front = []; is = refl; appended = Appends-nil old }

pub wrote_more : (old now new : Option (List ℕ)) (bytes rest : List ℕ) (n : ℕ) → Written old now bytes rest
    → Appends now new (take n rest) → Written old new bytes (drop n rest)
wrote_more old now new bytes rest n w h = record {
  front = w.front ++ take n rest;
  is = w.is ∙ ap (λ (t : List ℕ). w.front ++ t) (sym (take-append-drop n rest)) ∙ sym
      (append_assoc w.front (take n rest) (drop n rest));
  appended = Appends-trans old now new w.front (take n rest) w.appended h;
}

-- Bytes that are put one after another.
use Rattle.std.proofs.Common.{◌≡◌, ℕ, List, [], ◌++◌, Option, sym, ap, subst, ◌∙◌, append_assoc, append-nil}
use Rattle.std.proofs.Common.{Result, Ok, Err}
use Rattle.std.specs.Prelude.{OnOk}
use Rattle.std.specs.Io.KnownBytes.{Appends}
use Rattle.std.proofs.KnownBytes.{Appends-trans}
use Rattle.rapid_text.specs.Pages.{Puts}

pub put_both : {a b c : Option (List ℕ)} {p q r xs ys : List ℕ} → Puts a p b q xs → Puts b q c r ys
    → Puts a p c r (xs ++ ys)
put_both {a} {b} {c} {p} {q} {r} {xs} {ys} h k = record {
  front = h.front ++ k.front;
  written = Appends-trans a b c h.front k.front h.written k.written;
  is = sym (append_assoc p xs ys) ∙ ap (λ (t : List ℕ). t ++ ys) h.is ∙ append_assoc h.front q ys
      ∙ ap (λ (t : List ℕ). h.front ++ t) k.is ∙ sym (append_assoc h.front k.front r);
}

-- all that waited was written, and then the bytes
pub put_over : {a b : Option (List ℕ)} {p q : List ℕ} (c : Option (List ℕ)) (xs : List ℕ)
    → Puts a p b q [] → q ≡ [] → Appends b c xs → Puts a p c q xs
put_over {a} {b} {p} {q} c xs h e k =
    let all : p ≡ h.front = sym (append-nil p) ∙ h.is
    ∙ ap (λ (t : List ℕ). h.front ++ t) e ∙ append-nil h.front in
    record {
      front = h.front ++ xs;
      written = Appends-trans a b c h.front xs h.written k;
      is = ap (λ (t : List ℕ). t ++ xs) all ∙ sym (append-nil (h.front ++ xs))
          ∙ ap (λ (t : List ℕ). (h.front ++ xs) ++ t) (sym e);
    }

pub put_same : {a b : Option (List ℕ)} {p q xs ys : List ℕ} → xs ≡ ys → Puts a p b q xs → Puts a p b q ys
put_same {a} {b} {p} {q} e h = subst (λ (t : List ℕ). Puts a p b q t) e h

-- a text that was put on an empty page, of which nothing waits any more
pub all_written : (a b : Option (List ℕ)) (q xs : List ℕ) → Puts a [] b q xs → q ≡ [] → Appends a b xs
all_written a b q xs h e =
    subst (λ (t : List ℕ). Appends a b t)
    (sym (h.is ∙ ap (λ (t : List ℕ). h.front ++ t) e ∙ append-nil h.front)) h.written

-- the same, where the last of it was written if the end is well
pub all_flushed : {X Y : Type 0} (end : Result X Y) (a b c : Option (List ℕ)) (p q r xs : List ℕ) → p ≡ []
    → Puts a p b q xs → OnOk end (Puts b q c r []) → OnOk end (r ≡ []) → OnOk end (Appends a c xs)
all_flushed (Ok x) a b c p q r xs none h k e =
    all_written a c r xs
    (subst (λ (w : List ℕ). Puts a w c r xs) none (put_same (append-nil xs) (put_both h k))) e
all_flushed (Err x) a b c p q r xs none h k e = tt

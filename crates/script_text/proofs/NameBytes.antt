-- What does not stand in a name.
use Rattle.std.proofs.Common.{◌≡◌, ℕ, true, false, List, [], ◌∷◌, refl, arith}
use Rattle.std.specs.List.{list_all}
use Rattle.std.proofs.lemmas.Bool.Decides.{nat_tests}
use Rattle.rapid_line.specs.Cut.{Lacks}
use Rattle.script_text.specs.Forms.{is_name_byte}

-- a byte that may not stand in a name stands in none
pub name_bytes_lack : (b : ℕ) (bytes : List ℕ) → is_name_byte b ≡ false
    → list_all is_name_byte bytes ≡ true → Lacks b bytes
name_bytes_lack b [] bad all = refl
name_bytes_lack b (x ∷ xs) bad all = grind (arith, nat_tests, name_bytes_lack b xs)

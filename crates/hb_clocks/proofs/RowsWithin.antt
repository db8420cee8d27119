-- The rows of a thread lie within their tables, which are as wide as the clock of zeros.
use Rattle.std.proofs.Common.{◌≡◌, ℕ, ◌<◌, List, length, replicate, ap, sym, subst, ◌∙◌, arith}
use Rattle.std.proofs.lemmas.List.{length-replicate}
use Rattle.hb_clocks.specs.Rows.{AreWide}
use Rattle.hb_clocks.proofs.MadeRows.{made_within}
use Rattle.hb_clocks.specs.Tables.{HasThread}

-- a table that has a thread has a width
pub some_width : {w : ℕ} {po hb : List (List ℕ)} {t : ℕ} → HasThread w po hb t → 0 < w
some_width has = omega (arith, has.within)

-- the thread's row of program order is in its table
pub po_within : {w : ℕ} {po hb : List (List ℕ)} {t : ℕ} → HasThread w po hb t → t < length po
po_within has = made_within has.po_made (some_width has)

-- the thread's row of happens-before is in its table
pub hb_within : {w : ℕ} {po hb : List (List ℕ)} {t : ℕ} → HasThread w po hb t → t < length hb
hb_within has = made_within has.hb_made (some_width has)

-- a table as wide as the clock of zeros
pub wide_by : (w : ℕ) (zeros : List ℕ) (rows found : List (List ℕ)) → zeros ≡ replicate w 0 → AreWide w rows
    → found ≡ rows → AreWide (length zeros) found
wide_by w zeros rows found is wide same =
    subst (λ n. AreWide n found) (sym (ap length is ∙ length-replicate w 0))
    (subst (AreWide w) (sym same) wide)

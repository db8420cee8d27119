-- Rows that were made.
use Rattle.std.proofs.Common.{◌≡◌, ℕ, ◌<◌, ◌≤◌, List, [], ◌∷◌, length, get_or, set}
use Rattle.std.proofs.Common.{replicate, refl, sym, ap, subst, ◌∙◌, arith, inl, inr, ◌⊎◌}
use Rattle.std.proofs.lemmas.Bool.{cases_lt, cases_eq}
use Rattle.std.proofs.lemmas.List.{get_or_past, get_or_read, with_items_is}
use Rattle.std.proofs.lemmas.List.{get_or-replicate, get_or-set_same, get_or-set_other, length-replicate}
use Rattle.std.specs.Vec.{with_items}
use Rattle.std.specs.declared.vec.Vec.{Vec}
use Rattle.event_core.specs.Rows.{no_clock}
use Rattle.event_core.proofs.RowsAfterProperties.{row_same, row_other}
use Rattle.hb_clocks.specs.Counts.{counts_of}
use Rattle.hb_clocks.specs.Rows.{row_at, rows_of, widths_of, IsMade, AreWide}
use Rattle.hb_clocks.proofs.RowsProperties.{set_read}

-- a row without numbers is past the table's end, or was not made
pub no_row : (rows : List (List ℕ)) (t : ℕ) → length rows ≤ t → row_at rows t ≡ []
no_row rows t le = get_or_past rows t [] le

counts_none : (row : List ℕ) → length row ≡ 0 → counts_of row ≡ no_clock
counts_none [] h = refl
counts_none (x ∷ xs) h = absurd (omega arith)

zeros_at : (w u : ℕ) → get_or (replicate {A = ℕ} w 0) u 0 ≡ 0
zeros_at w u = go (cases_lt u w)
  where
    go : (u < w) ⊎ (w ≤ u) → get_or (replicate {A = ℕ} w 0) u 0 ≡ 0
    go (inl h) = get_or-replicate w u 0 0 h
    go (inr h) = get_or_past (replicate {A = ℕ} w 0) u 0 (omega (arith, length-replicate {A = ℕ} w 0))

pub zeros_none : (w : ℕ) (zeros : List ℕ) → zeros ≡ replicate w 0 → counts_of zeros ≡ no_clock
zeros_none w zeros is = ap counts_of is ∙ (λ i u. zeros_at w u i)

-- zeros in place of a row without numbers
pub zeros_for : (w : ℕ) (zeros : List ℕ) (rows : List (List ℕ)) (t : ℕ) → zeros ≡ replicate w 0
    → widths_of rows t ≡ 0
    → counts_of zeros ≡ rows_of rows t
zeros_for w zeros rows t is none = zeros_none w zeros is ∙ sym (counts_none (row_at rows t) none)

-- tables of equal widths
pub made_kept : (w t : ℕ) (old new : List (List ℕ)) → widths_of new ≡ widths_of old → IsMade w old t
    → IsMade w new t
made_kept w t old new e m = record { wide = ap (λ f. f t) e ∙ m.wide }

-- rows that keep their widths stay as wide as the table asks
pub wide_kept : (w : ℕ) (old new : List (List ℕ)) → widths_of new ≡ widths_of old → AreWide w old
    → AreWide w new
wide_kept w old new e a = record {
  wide = λ t h. (let p : widths_of new t ≡ widths_of old t =
      ap (λ f. f t) e in let q : 0 < widths_of old t = omega arith in p ∙ a.wide t q);
}

-- rows that are written in their vector, and keep their widths
pub written_widths : {Z : Type 0} (v : Vec (List ℕ) Z) (read rows : List (List ℕ)) → length read ≡ v.len
    → read ≡ v.items → length rows ≡ length read → widths_of rows ≡ widths_of read
    → widths_of (with_items v rows).items ≡ widths_of v.items
written_widths v read rows len is same kept =
    ap widths_of (with_items_is v rows (same ∙ len)) ∙ kept ∙ ap widths_of is

-- one row is made with zeros
module _ (w at : ℕ) (rows : List (List ℕ)) (row : List ℕ) (within : at < length rows)
    (none : widths_of rows at ≡ 0) (is : row ≡ replicate w 0) where
  pub made_rows : rows_of (set rows at row) ≡ rows_of rows
  made_rows i t = go t (cases_eq t at) i
    where
      go : (t : ℕ) → (t ≡ at) ⊎ (t ≡ at → ⊥) → rows_of (set rows at row) t ≡ rows_of rows t
      go t (inl q) = subst (λ b. rows_of (set rows at row) b ≡ rows_of rows b) (sym q)
          (set_read counts_of [] rows at row at within ∙ row_same at (counts_of row) (rows_of rows)
          ∙ zeros_for w row rows at is none)
      go t (inr n) =
          set_read counts_of [] rows at row t within ∙ row_other at (counts_of row) (rows_of rows) t n

-- a row with numbers lies within the table
pub row_within : (rows : List (List ℕ)) (t : ℕ) → 0 < widths_of rows t → t < length rows
row_within rows t some = go (cases_lt t (length rows))
  where
    go : (t < length rows) ⊎ (length rows ≤ t) → t < length rows
    go (inl lt) = lt
    go (inr le) = absurd (let none : widths_of rows t ≡ 0 = ap length (no_row rows t le) in omega arith)

-- so does a clock that was made
pub made_within : {w : ℕ} {rows : List (List ℕ)} {t : ℕ} → IsMade w rows t → 0 < w → t < length rows
made_within {rows = rows} {t = t} made some = row_within rows t (omega (arith, made.wide))

-- a row that was read
pub read_width : (rows : List (List ℕ)) (t : ℕ) (row : List ℕ) → t < length rows → row ≡ get_or rows t row
    → widths_of rows t ≡ length row
read_width rows t row lt is = sym (ap length (get_or_read rows t row lt is []))

-- the row at this place was made, and no other
pub record Remade (w at : ℕ) (old new : List (List ℕ)) : Type 0 where
  pub same : rows_of new ≡ rows_of old
  pub others : (t : ℕ) → (t ≡ at → ⊥) → widths_of new t ≡ widths_of old t
  pub made : widths_of new at ≡ w

-- in a table that had grown by rows that were not made
pub remade : (w at : ℕ) (old rows : List (List ℕ)) (found row : List ℕ)
    → ((t : ℕ) → row_at rows t ≡ row_at old t) → at < length rows → found ≡ get_or rows at found
    → length found ≡ 0 → row ≡ replicate w 0 → Remade w at old (set rows at row)
remade w at old rows found row same within read none is = record {
  same = made_rows w at rows row within (read_width rows at found within read ∙ none) is
      ∙ (λ i t. counts_of (same t i));
  others = λ t n. ap length (get_or-set_other rows at t row [] n) ∙ ap length (same t);
  made = ap length (get_or-set_same rows at row [] within) ∙ (ap length is ∙ length-replicate w 0);
}

module _ (w at : ℕ) (old new : List (List ℕ)) (r : Remade w at old new) where
  -- the row is made
  pub remade_made : IsMade w new at
  remade_made = record { wide = r.made }

  -- each row that was made stays so
  pub remade_kept : (t : ℕ) → IsMade w old t → IsMade w new t
  remade_kept t m = go (cases_eq t at)
    where
      go : (t ≡ at) ⊎ (t ≡ at → ⊥) → IsMade w new t
      go (inl q) = subst (IsMade w new) (sym q) remade_made
      go (inr n) = record { wide = r.others t n ∙ m.wide }

  -- the rows stay as wide as the table asks
  pub remade_wide : AreWide w old → AreWide w new
  remade_wide a = record { wide = λ t some. go t some (cases_eq t at) }
    where
      go : (t : ℕ) → 0 < widths_of new t → (t ≡ at) ⊎ (t ≡ at → ⊥) → widths_of new t ≡ w
      go t some (inl q) = ap (widths_of new) q ∙ r.made
      go t some (inr n) = r.others t n ∙ a.wide t (subst (λ k. 0 < k) (r.others t n) some)

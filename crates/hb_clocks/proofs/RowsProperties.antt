-- Writes to the rows of a table, and to those of a table in two parts.
use Rattle.std.proofs.Common.{◌≡◌, ℕ, ◌+◌, ◌-◌, ◌<◌, ◌≤◌, List, [], ◌++◌, length, get_or, set, refl, sym, ap}
use Rattle.std.proofs.Common.{ap₂, subst, ◌∙◌, inl, inr, ◌⊎◌, arith, cond, nat_eq}
use Rattle.std.proofs.lemmas.Bool.{cases_lt, cases_eq}
use Rattle.std.proofs.lemmas.List.{get_or-set_same, get_or-set_other, get_or_append_left, get_or_default}
use Rattle.std.proofs.lemmas.List.{get_or-append_right}
use Rattle.event_core.specs.Rows.{with_row}
use Rattle.event_core.proofs.RowsAfterProperties.{row_same, row_other}
use Rattle.hb_clocks.specs.Counts.{counts_of}
use Rattle.hb_clocks.specs.Rows.{row_at, rows_of, widths_of}

-- a list that is written at one place, by any reading h of its elements
pub set_read : {E A : Type 0} (h : E → A) (d : E) (xs : List E) (t : ℕ) (x : E) (a : ℕ) → t < length xs
    → h (get_or (set xs t x) a d) ≡ with_row t (h x) (λ b. h (get_or xs b d)) a
set_read h d xs t x a lt = go (cases_eq a t)
  where
    go : (a ≡ t) ⊎ (a ≡ t → ⊥) → h (get_or (set xs t x) a d) ≡ with_row t (h x) (λ b. h (get_or xs b d)) a
    go (inl q) =
        subst (λ b. h (get_or (set xs t x) b d) ≡ with_row t (h x) (λ c. h (get_or xs c d)) b) (sym q)
        (ap h (get_or-set_same xs t x d lt) ∙ sym (row_same t (h x) (λ b. h (get_or xs b d))))
    go (inr n) = ap h (get_or-set_other xs t a x d n) ∙ sym (row_other t (h x) (λ b. h (get_or xs b d)) a n)

-- by any reading h of a row
module _ {A : Type 0} (h : List ℕ → A) where
  read_left : (xs ys : List (List ℕ)) (a : ℕ) → a < length xs → h (row_at (xs ++ ys) a) ≡ h (row_at xs a)
  read_left xs ys a lt = ap h (get_or_append_left xs ys [] a lt)

  read_right : (xs ys : List (List ℕ)) (n a : ℕ) → length xs ≡ n → n ≤ a
      → h (row_at (xs ++ ys) a) ≡ h (row_at ys (a - n))
  read_right xs ys n a is le = ap h (get_or-append_right xs ys n a [] is le)

  -- a write to the front part is one to the whole
  pub read_front : (front back new : List (List ℕ)) (t : ℕ) (g : A) → length new ≡ length front
      → t < length front
      → ((a : ℕ) → h (row_at new a) ≡ with_row t g (λ b. h (row_at front b)) a)
      → (a : ℕ) → h (row_at (new ++ back) a) ≡ with_row t g (λ b. h (row_at (front ++ back) b)) a
  read_front front back new t g same lt is a = go (cases_lt a (length front))
    where
      go : (a < length front) ⊎ (length front ≤ a)
          → h (row_at (new ++ back) a) ≡ with_row t g (λ b. h (row_at (front ++ back) b)) a
      go (inl l) =
          read_left new back a (omega arith) ∙ is a
          ∙ ap (λ x. cond (nat_eq a t) g x) (sym (read_left front back a l))
      go (inr r) =
          read_right new back (length front) a same r ∙ sym (read_right front back (length front) a refl r)
          ∙ sym (row_other t g (λ b. h (row_at (front ++ back) b)) a (λ q. absurd (omega arith)))

  -- and so is one to the back part
  pub read_back : (front back new : List (List ℕ)) (t : ℕ) (g : A) → length front ≡ t
      → ((a : ℕ) → h (row_at new a) ≡ with_row 0 g (λ b. h (row_at back b)) a)
      → (a : ℕ) → h (row_at (front ++ new) a) ≡ with_row t g (λ b. h (row_at (front ++ back) b)) a
  read_back front back new t g at is a = go (cases_lt a t) (cases_eq a t)
    where
      old : ℕ → A
      old b = h (row_at (front ++ back) b)

      go : (a < t) ⊎ (t ≤ a) → (a ≡ t) ⊎ (a ≡ t → ⊥)
          → h (row_at (front ++ new) a) ≡ with_row t g (λ b. h (row_at (front ++ back) b)) a
      go (inl l) q =
          read_left front new a (omega arith) ∙ sym (read_left front back a (omega arith))
          ∙ sym (row_other t g (λ b. h (row_at (front ++ back) b)) a (λ e. absurd (omega arith)))
      go (inr r) (inl e) =
          let z : a - t ≡ 0 = omega arith in
          read_right front new t a at r ∙ is (a - t)
          ∙ subst (λ k. with_row 0 g (λ b. h (row_at back b)) k ≡ g) (sym z)
          (row_same 0 g (λ b. h (row_at back b)))
          ∙ sym (subst (λ k. with_row t g (λ b. h (row_at (front ++ back) b)) k ≡ g) (sym e)
          (row_same t g (λ b. h (row_at (front ++ back) b))))
      go (inr r) (inr n) =
          let z : a - t ≡ 0 → ⊥ = λ e. n (omega arith) in
          read_right front new t a at r ∙ is (a - t) ∙ row_other 0 g (λ b. h (row_at back b)) (a - t) z
          ∙ sym (read_right front back t a at r) ∙ sym (row_other t g (λ b. h (row_at (front ++ back) b)) a n)

  -- a part that reads the same
  pub read_front_same : (front back new : List (List ℕ)) → length new ≡ length front
      → ((a : ℕ) → h (row_at new a) ≡ h (row_at front a)) → (a : ℕ)
      → h (row_at (new ++ back) a) ≡ h (row_at (front ++ back) a)
  read_front_same front back new same is a = go (cases_lt a (length front))
    where
      go : (a < length front) ⊎ (length front ≤ a) → h (row_at (new ++ back) a) ≡ h (row_at (front ++ back) a)
      go (inl l) = read_left new back a (omega arith) ∙ is a ∙ sym (read_left front back a l)
      go (inr r) = read_right new back (length front) a same r
          ∙ sym (read_right front back (length front) a refl r)

  pub read_back_same : (front back new : List (List ℕ))
      → ((a : ℕ) → h (row_at new a) ≡ h (row_at back a)) → (a : ℕ)
      → h (row_at (front ++ new) a) ≡ h (row_at (front ++ back) a)
  read_back_same front back new is a = go (cases_lt a (length front))
    where
      go : (a < length front) ⊎ (length front ≤ a)
          → h (row_at (front ++ new) a) ≡ h (row_at (front ++ back) a)
      go (inl l) = read_left front new a l ∙ sym (read_left front back a l)
      go (inr r) = read_right front new (length front) a refl r ∙ is (a - length front)
          ∙ sym (read_right front back (length front) a refl r)

-- a table with one row written
pub rows_set : (rows : List (List ℕ)) (t : ℕ) (row : List ℕ) → t < length rows
    → rows_of (set rows t row) ≡ with_row t (counts_of row) (rows_of rows)
rows_set rows t row lt i a = set_read counts_of [] rows t row a lt i

-- a table in two parts, one of which is written
module _ (rows front back new : List (List ℕ)) (whole : rows ≡ front ++ back) where
  -- a row of the first part is the table's row
  front_read : (t : ℕ) (d : List ℕ) → t < length front → counts_of (get_or front t d) ≡ rows_of rows t
  front_read t d lt =
      ap counts_of (get_or_default front t d [] lt) ∙ sym (read_left counts_of front back t lt)
      ∙ sym (ap (λ xs. rows_of xs t) whole)

  -- the first row of the second part is the table's row after the first part
  back_read : (t : ℕ) (d : List ℕ) → length front ≡ t → 0 < length back
      → counts_of (get_or back 0 d) ≡ rows_of rows t
  back_read t d at some =
      let z : t - t ≡ 0 = omega arith in
      let le : t ≤ t = omega arith in
      ap counts_of (get_or_default back 0 d [] some) ∙ ap (rows_of back) (sym z)
      ∙ sym (read_right counts_of front back t t at le) ∙ sym (ap (λ xs. rows_of xs t) whole)

  -- a row that is written in the first part is written in the table
  front_written : (t : ℕ) (f g : ℕ → ℕ) → length new ≡ length front → t < length front → f ≡ g
      → rows_of new ≡ with_row t f (rows_of front) → rows_of (new ++ back) ≡ with_row t g (rows_of rows)
  front_written t f g same lt is e =
      (λ i a. read_front counts_of front back new t f same lt (λ b. ap (λ r. r b) e) a i)
      ∙ ap (λ k. with_row t k (rows_of (front ++ back))) is ∙ ap (λ xs. with_row t g (rows_of xs)) (sym whole)

  -- a row that is written first in the second part is written in the table after the first part
  back_written : (t : ℕ) (f g : ℕ → ℕ) → length front ≡ t → f ≡ g
      → rows_of new ≡ with_row 0 f (rows_of back) → rows_of (front ++ new) ≡ with_row t g (rows_of rows)
  back_written t f g at is e =
      (λ i a. read_back counts_of front back new t f at (λ b. ap (λ r. r b) e) a i)
      ∙ ap (λ k. with_row t k (rows_of (front ++ back))) is ∙ ap (λ xs. with_row t g (rows_of xs)) (sym whole)

  -- a row of the first part takes what the first row of the second part has
  pub front_takes : (take : (ℕ → ℕ) → (ℕ → ℕ) → ℕ → ℕ) (to from : ℕ) (d : List ℕ)
      → length new ≡ length front → length front ≡ from → length back + from ≡ length rows
      → from < length rows → to < from
      → rows_of new ≡ with_row to (take (rows_of front to) (counts_of (get_or back 0 d))) (rows_of front)
      → rows_of (new ++ back) ≡ with_row to (take (rows_of rows to) (rows_of rows from)) (rows_of rows)
  front_takes take to from d same at len within lt =
      front_written to _ _ same (omega arith)
      (ap₂ take (front_read to [] (omega arith)) (back_read from d at (omega arith)))

  -- the first row of the second part takes what a row of the first part has
  pub back_takes : (take : (ℕ → ℕ) → (ℕ → ℕ) → ℕ → ℕ) (to from : ℕ) (d : List ℕ)
      → length front ≡ to → length back + to ≡ length rows → to < length rows → from < to
      → rows_of new ≡ with_row 0 (take (rows_of back 0) (counts_of (get_or front from d))) (rows_of back)
      → rows_of (front ++ new) ≡ with_row to (take (rows_of rows to) (rows_of rows from)) (rows_of rows)
  back_takes take to from d at len within lt =
      back_written to _ _ at (ap₂ take (back_read to [] at (omega arith)) (front_read from d (omega arith)))

  -- widths that stay in the first part stay in the table
  pub front_widths : length new ≡ length front → widths_of new ≡ widths_of front
      → widths_of (new ++ back) ≡ widths_of rows
  front_widths same e =
      (λ i a. read_front_same length front back new same (λ b. ap (λ r. r b) e) a i)
      ∙ ap widths_of (sym whole)

  -- widths that stay in the second part stay in the table
  pub back_widths : widths_of new ≡ widths_of back → widths_of (front ++ new) ≡ widths_of rows
  back_widths e =
      (λ i a. read_back_same length front back new (λ b. ap (λ r. r b) e) a i) ∙ ap widths_of (sym whole)

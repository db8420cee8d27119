-- What is kept of a lock fits its cells after each call.
use Rattle.std.proofs.Common.{◌≡◌, ℕ, ◌+◌, ◌*◌, ◌<◌, ◌≤◌, Bool, true, false, ◌&&◌, inl, inr, cond, List}
use Rattle.std.proofs.Common.{[], ◌∷◌, ◌++◌, length, nat_eq, ◌⊎◌, refl, sym, ap, subst, ◌∙◌, arith}
use Rattle.std.specs.Prelude.{nat_lt, Option, None, Some}
use Rattle.std.specs.List.{list_any}
use Rattle.std.proofs.lemmas.Bool.{cases_eq, cases_lt, eqb-true, eq-eqb, lt-ltb, ne_eqb, false≢true}
use Rattle.std.proofs.lemmas.Bool.{or_right, and_right, and_parts}
use Rattle.std.proofs.lemmas.List.{get_or_past, length_push}
use Rattle.event_core.specs.declared.events.AccessKind.{AccessKind}
use Rattle.event_core.specs.declared.events.AccessKind.TheVariants.{Read, Write}
use Rattle.section_sum.specs.declared.cell.Cell.{Cell}
use Rattle.section_sum.specs.declared.cells.Place.{Place}
use Rattle.section_sum.specs.declared.lock.Sought.{Sought}
use Rattle.section_sum.specs.Cell.{no_cell, cell_at, is_noted, marked, marked_as}
use Rattle.section_sum.specs.Cells.{Stored, cell_place, place, lock_at, with_place, count_to}
use Rattle.section_sum.specs.LockSums.{
  LockSum,
  no_kept,
  kept_at,
  is_own,
  is_marked,
  IsSought,
  AreListed,
  IsKept,
  AreKept,
}
use Rattle.section_sum.proofs.ListProperties.{any_left, any_here, any_more}
use Rattle.section_sum.proofs.CountToProperties.{count_more, count_same, count_one, count_less, count_some}
use Rattle.section_sum.proofs.CellsProperties.{own_place, place_left, place_new, more_cells, lock_left}
use Rattle.section_sum.proofs.CellsProperties.{lock_new}

-- the cells of one lock have changed
pub record Changed (l : ℕ) (old new : Stored) : Type 0 where
  pub places : new.places ≡ old.places
  pub was : length old.cells ≡ length old.places
  pub same : length new.cells ≡ length new.places
  pub others : (i : ℕ) → is_own l old i ≡ false → cell_at new.cells i ≡ cell_at old.cells i

-- a cell is of the lock as before, where the places are the same
pub own_same : (m : ℕ) (old new : Stored) → new.places ≡ old.places → (i : ℕ) → is_own m new i
    ≡ is_own m old i
own_same m old new e i = ap (λ (ps : List Place). nat_eq (lock_at ps i) m) e

-- a cell that is there and is the lock's stays so, where the places are the same
pub own_in : (m : ℕ) (old new : Stored) → new.places ≡ old.places → (i : ℕ)
    → (i < length old.places) × (is_own m old i ≡ true) → (i < length new.places) × (is_own m new i ≡ true)
own_in m old new e i h = subst (λ (ps : List Place). (i < length ps) × (nat_eq (lock_at ps i) m ≡ true))
    (sym e) h

-- what is kept of a lock where cells have changed, once its list is right
kept_listed : (m by : ℕ) (xs : List ℕ) {old new : Stored} {k : LockSum} → new.places ≡ old.places
    → length new.cells ≡ length new.places → AreListed m new xs
    → length xs ≤ count_to (is_marked m new) (length old.places) → IsKept m old k
    → IsKept m new (record k { by = by; listed = xs })
kept_listed m by xs {new = new} {k = k} e same listed few kept = record {
  same = same;
  listed = listed;
  few = subst (λ (ps : List Place). length xs ≤ count_to (is_marked m new) (length ps)) (sym e) few;
  count = ap (λ (ps : List Place). count_to (λ i. nat_eq (lock_at ps i) m) (length ps)) e ∙ kept.count;
  capacity = kept.capacity;
  memory = kept.memory;
  sought = subst (λ (ps : List Place). IsSought m ps k.sought) (sym e) kept.sought;
}

-- a cell of one lock is none of another's
pub not_own : (l m : ℕ) (s : Stored) (i : ℕ) → (m ≡ l → ⊥) → is_own m s i ≡ true → is_own l s i ≡ false
not_own l m s i n on =
    ne_eqb (lock_at s.places i) l (λ e. n (sym (eqb-true (lock_at s.places i) m on) ∙ e))

marked_same : (l m : ℕ) (old new : Stored) → (m ≡ l → ⊥) → Changed l old new → (i : ℕ)
    → is_marked m new i ≡ is_marked m old i
marked_same l m old new n c i =
    ap (λ b. b && is_noted (cell_at new.cells i)) (own_same m old new c.places i) ∙ by (is_own m old i) refl
  where
    by : (b : Bool) → is_own m old i ≡ b
        → (is_own m old i && is_noted (cell_at new.cells i)) ≡ is_marked m old i
    by true e = ap (λ (x : Cell). is_own m old i && is_noted x) (c.others i (not_own l m old i n e))
    by false e =
        ap (λ b. b && is_noted (cell_at new.cells i)) e
        ∙ sym (ap (λ b. b && is_noted (cell_at old.cells i)) e)

-- what is kept of the other locks stays
pub kept_other : (l m : ℕ) (old new : Stored) (k : LockSum) → (m ≡ l → ⊥) → Changed l old new
    → IsKept m old k → IsKept m new k
kept_other l m old new k n c kept =
    kept_listed m k.by k.listed c.places c.same (record {
      marks = λ i on. kept.listed.marks i (sym (marked_same l m old new n c i) ∙ on);
      own = λ i on. own_in m old new c.places i (kept.listed.own i on);
    })
    (subst (λ n. length k.listed ≤ n) (sym (count_same (is_marked m new) (is_marked m old)
    (length old.places) (λ i _. marked_same l m old new n c i))) kept.few) kept

-- a cell that joins has no access
marked_more : (s : Stored) (l v m i : ℕ) → length s.cells ≡ length s.places
    → is_marked m (with_place s l v) i ≡ is_marked m s i
marked_more s l v m i same =
    ap (λ (c : Cell). is_own m (with_place s l v) i && is_noted c) (more_cells s.cells i)
    ∙ at (cases_lt i (length s.places))
  where
    at : (i < length s.places) ⊎ (length s.places ≤ i)
        → (is_own m (with_place s l v) i && is_noted (cell_at s.cells i)) ≡ is_marked m s i
    at (inl h) = ap (λ q. nat_eq q m && is_noted (cell_at s.cells i)) (lock_left s.places (place l v) i h)
    at (inr g) =
        let off : is_noted (cell_at s.cells i) ≡ false
        = ap is_noted (get_or_past s.cells i no_cell (omega (arith, g, same))) in
        ap (λ b. is_own m (with_place s l v) i && b) off ∙ and_right
        (is_own m (with_place s l v) i) false refl
        ∙ sym (ap (λ b. is_own m s i && b) off ∙ and_right (is_own m s i) false refl)

listed_more : (s : Stored) (l v m : ℕ) (xs : List ℕ) → length s.cells ≡ length s.places → AreListed m s xs
    → AreListed m (with_place s l v) xs
listed_more s l v m xs same a = record {
  marks = λ i on. a.marks i (sym (marked_more s l v m i same) ∙ on);
  own = λ i on.
      let h = a.own i on in
      let long = length_push s.places (place l v) in
      let less = h.0 in
      (omega (arith, less, long), ap (λ q. nat_eq q m) (lock_left s.places (place l v) i less) ∙ h.1);
}

-- of one number more it is asked whether it passes
counted_more : (f g : ℕ → Bool) (n m : ℕ) → m ≡ n + 1 → ((i : ℕ) → i < n → g i ≡ f i)
    → count_to g m ≡ count_to f n + cond {A = ℕ} (g n) 1 0
counted_more f g n m e same =
    ap (count_to g) e ∙ count_more g n ∙ ap (λ x. x + cond {A = ℕ} (g n) 1 0) (count_same g f n same)

few_more : (s : Stored) (l v m n : ℕ) → length s.cells ≡ length s.places
    → n ≤ count_to (is_marked m s) (length s.places)
    → n ≤ count_to (is_marked m (with_place s l v)) (length (with_place s l v).places)
few_more s l v m n same few =
    let more = counted_more (is_marked m s) (is_marked m (with_place s l v)) (length s.places) _
    (length_push s.places (place l v)) (λ i _. marked_more s l v m i same) in
    omega (arith, more, few)

own_more : (s : Stored) (l v m : ℕ)
    → count_to (is_own m (with_place s l v)) (length (with_place s l v).places)
    ≡ count_to (is_own m s) (length s.places) + cond {A = ℕ} (nat_eq l m) 1 0
own_more s l v m =
    counted_more (is_own m s) (is_own m (with_place s l v)) (length s.places) _
    (length_push s.places (place l v)) (λ i h. ap (λ q. nat_eq q m) (lock_left s.places (place l v) i h))
    ∙ ap (λ q. count_to (is_own m s) (length s.places) + cond {A = ℕ} (nat_eq q m) 1 0)
    (lock_new s.places l v)

same_more : (s : Stored) (l v : ℕ) → length s.cells ≡ length s.places
    → length (with_place s l v).cells ≡ length (with_place s l v).places
same_more s l v same = omega (arith, same, length_push s.cells no_cell, length_push s.places (place l v))

sought_more : (places : List Place) (p : Place) (m : ℕ) (o : Option Sought) → IsSought m places o
    → IsSought m (places ++ p ∷ []) o
sought_more places p m None h = h
sought_more places p m (Some x) h =
    let less = h.1 in
    let known = subst (λ (b : ℕ). b < length places) h.0 less in
    let long = length_push places p in
    (h.0 ∙ sym (place_left places p m x.var known), omega (arith, less, long))

-- another lock's cell joins
pub kept_more : (s : Stored) (l v m : ℕ) (k : LockSum) → (m ≡ l → ⊥) → IsKept m s k
    → IsKept m (with_place s l v) k
kept_more s l v m k n kept = record {
  same = same_more s l v kept.same;
  listed = listed_more s l v m k.listed kept.same kept.listed;
  few = few_more s l v m (length k.listed) kept.same kept.few;
  count =
      let c = kept.count in
      let more = own_more s l v m in
      let none : cond {A = ℕ} (nat_eq l m) 1 0 ≡ 0
      = ap (λ b. cond {A = ℕ} b 1 0) (ne_eqb l m (λ e. n (sym e))) in
      omega (arith, c, more, none);
  capacity = kept.capacity;
  memory = kept.memory;
  sought = sought_more s.places (place l v) m k.sought kept.sought;
}

-- a cell of the lock joins, and was sought
pub kept_new : (s : Stored) (l v at : ℕ) (k : LockSum) (most : ℕ) → cell_place s.places l v ≡ length s.places
    → at ≡ length s.places → k.count + 1 ≤ most → most ≤ 2 * (k.count + 2) → IsKept l s k
    → IsKept l (with_place s l v)
    (record k { count = k.count + 1; most = most; sought = Some (record { var = v; at = at }) })
kept_new s l v at k most e q ready memory kept = record {
  same = same_more s l v kept.same;
  listed = listed_more s l v l k.listed kept.same kept.listed;
  few = few_more s l v l (length k.listed) kept.same kept.few;
  count =
      let c = kept.count in
      let more = own_more s l v l in
      let one : cond {A = ℕ} (nat_eq l l) 1 0 ≡ 1 = ap (λ b. cond {A = ℕ} b 1 0) (eq-eqb l l refl) in
      omega (arith, c, more, one);
  capacity = ready;
  memory = omega (arith, memory);
  sought =
      let long = length_push s.places (place l v) in
      (q ∙ sym (place_new s.places l v e), omega (arith, q, long));
}

-- the list in another place, with no less room
pub kept_as : (s : Stored) (l : ℕ) (k : LockSum) (xs : List ℕ) (most : ℕ) → xs ≡ k.listed → k.most ≤ most
    → most ≤ 2 * (k.count + 1) → IsKept l s k → IsKept l s (record k { listed = xs; most = most })
kept_as s l k xs most e more memory kept =
    subst (λ ys. IsKept l s (record k { listed = ys; most = most })) (sym e)
    record {
      same = kept.same;
      listed = kept.listed;
      few = kept.few;
      count = kept.count;
      capacity = (let c = kept.capacity in omega (arith, c, more));
      memory = memory;
      sought = kept.sought;
    }

-- where a cell of the lock has no access yet, there is room in the list
pub spare : (s : Stored) (l v : ℕ) (k : LockSum) → IsKept l s k
    → cell_place s.places l v < length s.places → is_noted (cell_at s.cells (cell_place s.places l v)) ≡ false
    → length k.listed < k.most
spare s l v k kept h off =
    let at = cell_place s.places l v in
    let own : is_own l s at ≡ true = eq-eqb _ _ (own_place s.places l v h) in
    let less = count_less (is_marked l s) (is_own l s) (length s.places) at h
    (ap (λ b. is_own l s at && b) off ∙ and_right (is_own l s at) false refl) own
    (λ i on. (and_parts _ _ on).0) in
    let few = kept.few in
    let count = kept.count in
    let most = kept.capacity in
    omega (arith, less, few, count, most)

noted_marked : (kind : AccessKind) (c : Cell) → is_noted (marked kind c) ≡ true
noted_marked Read c = refl
noted_marked Write c = or_right c.reads.noted true refl

-- the cell with the number has an access, and the others are the same
pub record Marks (at : ℕ) (kind : AccessKind) (old new : Stored) : Type 0 where
  pub places : new.places ≡ old.places
  pub same : length new.cells ≡ length new.places
  pub exact : (i : ℕ) → cell_at new.cells i ≡ marked_as (nat_eq i at) kind (cell_at old.cells i)

marked_there : (at : ℕ) (kind : AccessKind) (old new : Stored) → Marks at kind old new
    → cell_at new.cells at ≡ marked kind (cell_at old.cells at)
marked_there at kind old new m =
    m.exact at ∙ ap (λ b. marked_as b kind (cell_at old.cells at)) (eq-eqb at at refl)

marked_else : (at : ℕ) (kind : AccessKind) (old new : Stored) → Marks at kind old new → (i : ℕ)
    → (i ≡ at → ⊥) → cell_at new.cells i ≡ cell_at old.cells i
marked_else at kind old new m i n =
    m.exact i ∙ ap (λ b. marked_as b kind (cell_at old.cells i)) (ne_eqb i at n)

-- only the lock's cells have changed
pub marks_changed : (l at : ℕ) (kind : AccessKind) (old new : Stored) → length old.cells ≡ length old.places
    → is_own l old at ≡ true → Marks at kind old new → Changed l old new
marks_changed l at kind old new same own m = record {
  places = m.places;
  was = same;
  same = m.same;
  others = λ i off. marked_else at kind old new m i
      (λ e. absurd (false≢true (sym off ∙ ap (is_own l old) e ∙ own)));
}

-- an access that is the first of its cell: the cell is listed
pub kept_first : (l at by : ℕ) (kind : AccessKind) (old new : Stored) (k : LockSum) → at < length old.places
    → is_own l old at ≡ true → is_noted (cell_at old.cells at) ≡ false → Marks at kind old new
    → IsKept l old k → IsKept l new (record k { by = by; listed = k.listed ++ at ∷ [] })
kept_first l at by kind old new k h own off m kept =
    let on : is_marked l new at ≡ true
    = ap (λ b. b && is_noted (cell_at new.cells at)) (own_same l old new m.places at ∙ own)
    ∙ ap is_noted (marked_there at kind old new m) ∙ noted_marked kind (cell_at old.cells at) in
    let was : is_marked l old at ≡ false
    = ap (λ b. is_own l old at && b) off ∙ and_right (is_own l old at) false refl in
    let else : (i : ℕ) → (i ≡ at → ⊥) → is_marked l new i ≡ is_marked l old i
    = λ i n. ap (λ b. b && is_noted (cell_at new.cells i)) (own_same l old new m.places i)
    ∙ ap (λ (c : Cell). is_own l old i && is_noted c) (marked_else at kind old new m i n) in
    let one = count_one (is_marked l old) (is_marked l new) (length old.places) at h was on else in
    let long = length_push k.listed at in
    let few = kept.few in
    kept_listed l by (k.listed ++ at ∷ []) m.places m.same (record {
      marks = λ i mark. elim (cases_eq i at) [
        | inl e ↦ subst (λ (b : ℕ). list_any (nat_eq b) (k.listed ++ at ∷ []) ≡ true) (sym e)
            (any_here k.listed at)
        | inr n ↦ any_more k.listed at i (kept.listed.marks i (sym (else i n) ∙ mark))
      ];
      own = λ i any. own_in l old new m.places i (elim (cases_eq i at) [
        | inl e ↦ subst (λ (b : ℕ). (b < length old.places) × (is_own l old b ≡ true)) (sym e) (h, own)
        | inr n ↦ kept.listed.own i (any_left k.listed at i any n)
      ]);
    }) (omega (arith, long, few, one)) kept

-- a further access to a cell that is listed
pub kept_again : (l at by : ℕ) (kind : AccessKind) (old new : Stored) (k : LockSum)
    → is_own l old at ≡ true → is_noted (cell_at old.cells at) ≡ true → Marks at kind old new
    → IsKept l old k → IsKept l new (record k { by = by })
kept_again l at by kind old new k own noted m kept =
    let each : (i : ℕ) → is_marked l new i ≡ is_marked l old i
    = λ i. ap (λ b. b && is_noted (cell_at new.cells i)) (own_same l old new m.places i)
    ∙ elim (cases_eq i at) [
      | inl e ↦ ap (λ b. is_own l old i && b)
          (ap (λ q. is_noted (cell_at new.cells q)) e ∙ ap is_noted (marked_there at kind old new m)
          ∙ noted_marked kind (cell_at old.cells at) ∙ sym noted
          ∙ sym (ap (λ q. is_noted (cell_at old.cells q)) e))
      | inr n ↦ ap (λ (c : Cell). is_own l old i && is_noted c) (marked_else at kind old new m i n)
    ] in
    kept_listed l by k.listed m.places m.same (record {
      marks = λ i on. kept.listed.marks i (sym (each i) ∙ on);
      own = λ i any. own_in l old new m.places i (kept.listed.own i any);
    })
    (subst (λ n. length k.listed ≤ n) (sym (count_same (is_marked l new) (is_marked l old)
    (length old.places) (λ i _. each i))) kept.few) kept

-- a lock with a cell is one of the list
pub has_lock : (s : Stored) (locks : List LockSum) (l v : ℕ) → AreKept s locks
    → cell_place s.places l v < length s.places → l < length locks
has_lock s locks l v kept h = elim (cases_lt l (length locks)) [
  | inl less ↦ less
  | inr past ↦
      let some = count_some (is_own l s) (length s.places) (cell_place s.places l v) h
      (eq-eqb _ _ (own_place s.places l v h)) in
      let none : (kept_at locks l).count ≡ 0 =
      ap (λ (k : LockSum). k.count) (get_or_past locks l no_kept past) in
      let count = (kept l).count in
      absurd (omega (arith, some, none, count))
]

-- there is room for what has joined
pub has_place : (old new : Stored) (l v : ℕ) → cell_place old.places l v ≡ length old.places
    → new ≡ with_place old l v → nat_lt (cell_place new.places l v) (length new.places) ≡ true
has_place old new l v e q =
    let there = place_new old.places l v e in
    let long = length_push old.places (place l v) in
    subst (λ (s : Stored). nat_lt (cell_place s.places l v) (length s.places) ≡ true) (sym q)
    (lt-ltb _ _ (omega (arith, there, long)))

-- and none where nothing is kept of the lock
pub no_lock : (s : Stored) (locks : List LockSum) (l v : ℕ) → AreKept s locks → length locks ≤ l
    → length s.places ≤ cell_place s.places l v
no_lock s locks l v kept past = elim (cases_lt (cell_place s.places l v) (length s.places)) [
  | inl h ↦ let less = has_lock s locks l v kept h in absurd (omega (arith, past, less))
  | inr g ↦ g
]

-- What is read of a content is its named event, or the first cause why it has none.
use Rattle.std.proofs.Common.{◌≡◌, ℕ, ◌+◌, ◌<◌, ◌≤◌, Bool, true, false, cond, List, [], ◌∷◌, ◌++◌, length}
use Rattle.std.proofs.Common.{Result, Ok, Err, refl, sym, ap, subst, ◌∙◌, arith, inl, inr}
use Rattle.std.specs.Prelude.{◌||◌, ◌==◌, ◌⊎◌, nat_lt, IfOk, IfErr}
use Rattle.std.proofs.lemmas.Bool.{or_parts, ltb-true, ltb-false, both_ways, cases_lt}
use Rattle.std.proofs.lemmas.Bool.Decides.{nat_tests}
use Rattle.rapid_line.specs.declared.words.Word.{Word}
use Rattle.rapid_line.specs.declared.words.LineFault.{LineFault}
use Rattle.rapid_line.specs.declared.words.LineFault.TheVariants.{LineTooLong, StrayCr, FewFields, ManyFields}
use Rattle.rapid_line.specs.declared.words.LineFault.TheVariants.{BadOp, EmptyName, LongName}
use Rattle.rapid_line.specs.declared.lines.NamedLine.{NamedLine}
use Rattle.rapid_line.specs.Cut.{has, Lacks}
use Rattle.rapid_line.specs.Grammar.{NamedEvent, IsNamed, operation, content_of, spelling}
use Rattle.rapid_line.specs.Causes.{HasFields, HasParts, IsFirstCause, Applies, rank}
use Rattle.rapid_line.specs.Reading.{unless, and_then, fields_of, operation_of, names_of, line_of, named_of}
use Rattle.rapid_line.specs.Reading.{Gives, ok_named}
use Rattle.rapid_line.proofs.CutProperties.{Lacks-left, Lacks-right}
use Rattle.rapid_line.proofs.ReadingProperties.{unless_by, and_then_by}
use Rattle.rapid_line.proofs.SpellingProperties.{operation_again}
use Rattle.rapid_line.proofs.HasFieldsProperties.{FieldsSay, fields_say, two_bars, one_split, one_parts}
use Rattle.rapid_line.proofs.HasFieldsProperties.{OperationSays, operation_says}

-- ---- the order of the causes

-- the cause with this rank
fault_at : ℕ → LineFault
fault_at n =
    cond (n == 1) LineTooLong (cond (n == 2) StrayCr (cond (n == 3) FewFields
    (cond (n == 4) ManyFields (cond (n == 5) BadOp (cond (n == 6) EmptyName LongName)))))

ranked : (f : LineFault) → (0 < rank f) × (rank f < 8) × (fault_at (rank f) ≡ f)
unfolding fault_at
ranked LineTooLong = (omega arith, omega arith, refl)
ranked _ = (omega arith, omega arith, refl)

same_rank : (f g : LineFault) → rank f ≡ rank g → f ≡ g
same_rank f g is = sym (ranked f).2 ∙ ap fault_at is ∙ (ranked g).2

one_first : {bytes : List ℕ} {f g : LineFault} → IsFirstCause bytes f → IsFirstCause bytes g → f ≡ g
one_first {f = f} {g = g} p q =
    let below : rank f < rank g → ⊥ = λ lt. q.first f lt p.applies in
    let above : rank g < rank f → ⊥ = λ lt. p.first g lt q.applies in
    same_rank f g (omega arith)

-- no cause of a lower rank applies
abbrev Clear : List ℕ → ℕ → Type 0
Clear bytes n = (g : LineFault) → rank g < n → Applies bytes g → ⊥

clear_more : (bytes : List ℕ) (f : LineFault) → Clear bytes (rank f) → (Applies bytes f → ⊥)
    → Clear bytes (rank f + 1)
clear_more bytes f clear none g lt h =
    elim (cases_lt (rank g) (rank f)) [
      | inl less ↦ clear g less h
      | inr most ↦
          none (subst (λ (k : LineFault). Applies bytes k) (same_rank g f (omega (arith, lt, most))) h)
    ]

-- ---- the lengths of names

none_of : (a b : ℕ) → (a == 0 || b == 0) ≡ true → (a ≡ 0) ⊎ (b ≡ 0)
none_of a b h = grind (arith, nat_tests)

some_of : (a b : ℕ) → (a == 0 || b == 0) ≡ false → (0 < a) × (0 < b)
some_of a b h = grind (arith, nat_tests)

long_of : (a b c : ℕ) → (nat_lt 255 a || nat_lt 255 b || nat_lt 255 c) ≡ true
    → (255 < a) ⊎ ((255 < b) ⊎ (255 < c))
long_of a b c h = grind (arith, nat_tests)

short_of : (a b c : ℕ) → (nat_lt 255 a || nat_lt 255 b || nat_lt 255 c) ≡ false
    → (a ≤ 255) × (b ≤ 255) × (c ≤ 255)
short_of a b c h = grind (arith, nat_tests)

-- ---- the named event

argument_lacks : (b : ℕ) (w : Word) (argument : List ℕ) → Lacks b (operation w argument) → Lacks b argument
argument_lacks b w argument h =
    let r = Lacks-right b (spelling w) (40 ∷ (argument ++ 41 ∷ [])) h in
    Lacks-left b argument (41 ∷ []) (or_parts (40 == b) (has b (argument ++ 41 ∷ [])) r).1

parts_lack : (b : ℕ) (d : NamedEvent) → Lacks b (content_of d)
    → Lacks b d.thread × Lacks b d.argument × Lacks b d.location
parts_lack b d h =
    let r = (or_parts (124 == b) (has b (operation d.word d.argument ++ 124 ∷ d.location))
    (Lacks-right b d.thread (124 ∷ (operation d.word d.argument ++ 124 ∷ d.location)) h)).1 in
    let o = Lacks-left b (operation d.word d.argument) (124 ∷ d.location) r in
    let l = (or_parts (124 == b) (has b d.location)
    (Lacks-right b (operation d.word d.argument) (124 ∷ d.location) r)).1 in (
      Lacks-left b d.thread (124 ∷ (operation d.word d.argument ++ 124 ∷ d.location)) h,
      argument_lacks b d.word d.argument o,
      l,
    )

-- parts whose names have the lengths of names
is_named : {bytes : List ℕ} {e : NamedEvent} → HasParts bytes e → Lacks 13 bytes → Lacks 10 bytes
    → (0 < length e.thread) × (0 < length e.argument)
    → (length e.thread ≤ 255) × (length e.argument ≤ 255) × (length e.location ≤ 255) → IsNamed bytes e
is_named {e = e} p no_cr no_lf some short =
    let h = p.fields in
    let cr = parts_lack 13 e (subst (λ (t : List ℕ). Lacks 13 t) h.is no_cr) in
    let lf = parts_lack 10 e (subst (λ (t : List ℕ). Lacks 10 t) h.is no_lf) in
    let bar = argument_lacks 124 e.word e.argument h.op_bar in
    record {
      is = h.is;
      fits = record {
        thread = record {
          field = record { bar = h.thread_bar; lf = lf.0; cr = cr.0; short = short.0 };
          some = some.0;
        };
        argument = record {
          field = record { bar = bar; lf = lf.1; cr = cr.1; short = short.1 };
          some = some.1;
        };
        location = record { bar = h.location_bar; lf = lf.2; cr = cr.2; short = short.2 };
      };
    }

-- ---- the reading

-- it has the named event and no cause applies to it, or the cause is the first
abbrev Says : List ℕ → Result NamedEvent LineFault → Type 0
Says bytes (Ok e) = ((g : LineFault) → Applies bytes g → ⊥) × (Lacks 10 bytes → IsNamed bytes e)
Says bytes (Err f) = IsFirstCause bytes f

-- a test of the next cause
test : (bytes : List ℕ) (f : LineFault) (b : Bool) (next : Result NamedEvent LineFault) → Clear bytes (rank f)
    → (b ≡ true → Applies bytes f) → (b ≡ false → Applies bytes f → ⊥)
    → (b ≡ false → Clear bytes (rank f + 1) → Says bytes next) → Says bytes (unless f b next)
test bytes f b next clear applies none go =
    unless_by (Says bytes) f b next (λ yes. record { applies = applies yes; first = clear })
    (λ fails. go fails (clear_more bytes f clear (none fails)))

-- what the names of the parts come to
names_say : (bytes : List ℕ) (e : NamedEvent) → HasParts bytes e → Lacks 13 bytes → Clear bytes 6
    → Says bytes (names_of e.thread e.location e.word e.argument)
names_say bytes e parts no_cr clear =
    test bytes EmptyName (length e.thread == 0 || length e.argument == 0) _ clear
    (λ h. record { named = e; parts = parts; empty = none_of (length e.thread) (length e.argument) h })
    (λ h other.
    let some = some_of (length e.thread) (length e.argument) h in
    elim (subst (λ (d : NamedEvent). (length d.thread ≡ 0) ⊎ (length d.argument ≡ 0))
    (one_parts other.parts parts) other.empty) [ inl z ↦ omega arith | inr z ↦ omega arith ]) (λ some none.
    test bytes LongName
    (nat_lt 255 (length e.thread) || nat_lt 255 (length e.argument) || nat_lt 255 (length e.location)) _ none
    (λ h. record {
      named = e;
      parts = parts;
      long = long_of (length e.thread) (length e.argument) (length e.location) h;
    })
    (λ h other.
    let short = short_of (length e.thread) (length e.argument) (length e.location) h in
    elim (subst (λ (d : NamedEvent). (255 < length d.thread)
    ⊎ ((255 < length d.argument) ⊎ (255 < length d.location))) (one_parts other.parts parts) other.long)
    [ inl a ↦ omega arith | inr b ↦ elim b [ inl c ↦ omega arith | inr d ↦ omega arith ] ]) (λ short all. (
      λ g. all g (ranked g).1,
      λ no_lf. is_named parts no_cr no_lf (some_of (length e.thread) (length e.argument) some)
          (short_of (length e.thread) (length e.argument) (length e.location) short),
    )))

-- what the operation between the bars comes to
parts_say : (bytes : List ℕ) (f : List ℕ × List ℕ × List ℕ) → HasFields bytes f.0 f.1 f.2 → Lacks 13 bytes
    → Clear bytes 5 → Says bytes (and_then (operation_of f.1) (λ o. names_of f.0 f.2 o.0 o.1))
parts_say bytes f split no_cr clear =
    and_then_by (Says bytes) (OperationSays f.1) (operation_of f.1) _ (operation_says f.1)
    (λ g e is. subst (λ (k : LineFault). IsFirstCause bytes k) (sym is) (record {
      applies = record {
        thread = f.0;
        op = f.1;
        location = f.2;
        fields = split;
        bad = λ w a same.
            let clash : Err g ≡ Ok (w, a) = sym e ∙ (ap operation_of same ∙ operation_again w a) in absurd cc;
      };
      first = clear;
    })) (λ o op.
    names_say bytes (record { thread = f.0; word = o.0; argument = o.1; location = f.2 })
    (record { fields = subst (λ (x : List ℕ). HasFields bytes f.0 x f.2) op split }) no_cr
    (clear_more bytes BadOp clear (λ h.
    h.bad o.0 o.1 (sym (ap (λ (x : List ℕ × List ℕ × List ℕ). x.1) (one_split split h.fields)) ∙ op))))

says : (bytes : List ℕ) → Says bytes (line_of bytes)
unfolding line_of
says bytes =
    test bytes LineTooLong (nat_lt 1024 (length bytes)) _
    (λ g lt. absurd (let some = (ranked g).0 in omega (arith, lt, some))) (ltb-true 1024 (length bytes))
    (λ e h. let le = ltb-false 1024 (length bytes) e in omega (arith, le, h)) (λ short none.
    test bytes StrayCr (has 13 bytes) _ none (λ h. h) (λ e h. both_ways (has 13 bytes) e h) (λ no_cr clear.
    and_then_by (Says bytes) (FieldsSay bytes) (fields_of bytes) _ (fields_say bytes)
    (λ g e bars. elim bars [
      | inl few ↦ subst (λ (k : LineFault). IsFirstCause bytes k) (sym few.0)
          (record { applies = few.1; first = clear })
      | inr many ↦ subst (λ (k : LineFault). IsFirstCause bytes k) (sym many.0) (record {
        applies = many.1;
        first = clear_more bytes FewFields clear (λ few. omega (arith, few, many.1));
      })
    ]) (λ f split.
    let bars = two_bars split in
    parts_say bytes f split no_cr (clear_more bytes ManyFields
    (clear_more bytes FewFields clear (λ few. omega (arith, few, bars)))
    (λ many. omega (arith, many, bars))))))

-- ---- what it answers

-- the event that is read of a content without LF is its named event
pub read_found : (bytes : List ℕ) (e : NamedEvent) → Lacks 10 bytes → line_of bytes ≡ ok_named e
    → IsNamed bytes e
read_found bytes e lf eq = (subst (λ (r : Result NamedEvent LineFault). Says bytes r) eq (says bytes)).1 lf

-- the fault that is read of a content is its first cause
pub read_first : (bytes : List ℕ) (f : LineFault) → line_of bytes ≡ Err f → IsFirstCause bytes f
read_first bytes f eq = subst (λ (r : Result NamedEvent LineFault). Says bytes r) eq (says bytes)

-- a first cause is answered
answered_by : (bytes : List ℕ) (f : LineFault) (r : Result NamedEvent LineFault) → Says bytes r
    → IsFirstCause bytes f → r ≡ Err f
answered_by bytes f (Ok e) s h = absurd (s.0 f h.applies)
answered_by bytes f (Err g) s h =
    ap (λ (x : LineFault). let r : Result NamedEvent LineFault = Err x in r) (one_first s h)

-- the first cause of a content is the fault that is read
pub first_answered : (bytes : List ℕ) (f : LineFault) → IsFirstCause bytes f → line_of bytes ≡ Err f
first_answered bytes f h = answered_by bytes f (line_of bytes) (says bytes) h

-- a function that answers as the reading does gives the named event of a content without LF
pub found_of : (bytes : List ℕ) (r : Result NamedLine LineFault) → Lacks 10 bytes
    → Gives named_of r (line_of bytes) → IfOk r (λ line. IsNamed bytes (named_of line))
found_of bytes (Ok line) lf g = read_found bytes (named_of line) lf g
found_of bytes (Err f) lf g = tt

-- a function that answers as the reading does gives the first cause
pub first_of : (bytes : List ℕ) (r : Result NamedLine LineFault) → Gives named_of r (line_of bytes)
    → IfErr r (IsFirstCause bytes)
first_of bytes (Ok line) g = tt
first_of bytes (Err f) g = read_first bytes f g

-- What a content is split into, and why it is not: each split is the only one.
use Rattle.std.proofs.Common.{◌≡◌, ℕ, ◌+◌, ◌<◌, true, cond, List, [], ◌∷◌, ◌++◌, Option, Some, None, Result}
use Rattle.std.proofs.Common.{Ok, Err, refl, sym, ap, ◌∙◌, arith, inl, inr}
use Rattle.std.specs.Prelude.{◌⊎◌}
use Rattle.std.proofs.lemmas.Bool.{cases_Bool}
use Rattle.std.proofs.lemmas.Bool.Decides.{nat_tests}
use Rattle.std.specs.Str.{bytes_eq}
use Rattle.std.proofs.lemmas.Slice.Eq.{bytes_eq-Decides}
use Rattle.rapid_line.specs.declared.words.Word.{Word}
use Rattle.rapid_line.specs.declared.words.Word.TheVariants.{Load, Store, Acquire, Release, Fork, Join}
use Rattle.rapid_line.specs.declared.words.LineFault.{LineFault}
use Rattle.rapid_line.specs.declared.words.LineFault.TheVariants.{FewFields, ManyFields, BadOp}
use Rattle.rapid_line.specs.Cut.{has, count, cut, before_end}
use Rattle.rapid_line.specs.Grammar.{NamedEvent, spelling, operation}
use Rattle.rapid_line.specs.Causes.{HasFields, HasParts}
use Rattle.rapid_line.specs.Reading.{word_of, fields_of, operation_of}
use Rattle.rapid_line.proofs.CutProperties.{cut_None, IsCut, IsCut-at, before_end-Some, count-append}
use Rattle.rapid_line.proofs.CutProperties.{count-Lacks}
use Rattle.rapid_line.proofs.ReadingProperties.{unless_by, or_fault_by, ok_inj}
use Rattle.rapid_line.proofs.SpellingProperties.{fields_again, operation_again}

-- ---- the three fields

bars-has : (xs : List ℕ) → has 124 xs ≡ true → 0 < count 124 xs
bars-has [] h = absurd cc
bars-has (x ∷ xs) h = grind (arith, nat_tests, bars-has xs)

-- the bars of a text that is cut at the first
bars_cut : {xs a c : List ℕ} → IsCut 124 xs a c → count 124 xs ≡ 1 + count 124 c
bars_cut {a = a} {c = c} h =
    let x : count 124 (124 ∷ c) ≡ 1 + count 124 c = refl in
    let y = count-append 124 a (124 ∷ c) in
    let z = count-Lacks 124 a h.lacks in
    let w = ap (count 124) h.is in
    omega (arith, w, y, z, x)

-- there are three fields, or too few bars or too many
abbrev pub FieldsSay : List ℕ → Result (List ℕ × List ℕ × List ℕ) LineFault → Type 0
FieldsSay bytes (Ok f) = HasFields bytes f.0 f.1 f.2
FieldsSay bytes (Err f) =
    ((f ≡ FewFields) × (count 124 bytes < 2)) ⊎ ((f ≡ ManyFields) × (2 < count 124 bytes))

-- the reading of a content gives its three fields, or states that it has too few bars or too many
pub fields_say : (bytes : List ℕ) → FieldsSay bytes (fields_of bytes)
fields_say bytes =
    or_fault_by (FieldsSay bytes) FewFields (cut 124 bytes) _
    (λ none. let z = count-Lacks 124 bytes (cut_None 124 bytes none) in inl (refl, omega (arith, z))) (λ p at.
    let c = IsCut-at 124 bytes p at in
    let n = bars_cut c in
    or_fault_by (FieldsSay bytes) FewFields (cut 124 p.1) _
    (λ none. let z = count-Lacks 124 p.1 (cut_None 124 p.1 none) in inl (refl, omega (arith, n, z))) (λ q at'.
    let d = IsCut-at 124 p.1 q at' in
    let m = bars_cut d in
    unless_by (FieldsSay bytes) ManyFields (has 124 q.1) _
    (λ many. let z = bars-has q.1 many in inr (refl, omega (arith, n, m, z)))
    (λ lacks. record {
      is = c.is ∙ ap (λ (t : List ℕ). p.0 ++ 124 ∷ t) d.is;
      thread_bar = c.lacks;
      op_bar = d.lacks;
      location_bar = lacks;
    })))

-- a content of three fields has two bars
pub two_bars : {bytes t o l : List ℕ} → HasFields bytes t o l → count 124 bytes ≡ 2
two_bars {bytes} {t} {o} {l} h =
    let one : IsCut 124 bytes t (o ++ 124 ∷ l) = record { is = h.is; lacks = h.thread_bar } in
    let two : IsCut 124 (o ++ 124 ∷ l) o l = record { is = refl; lacks = h.op_bar } in
    let n = bars_cut one in
    let m = bars_cut two in
    let z = count-Lacks 124 l h.location_bar in
    omega (arith, n, m, z)

-- a content has three fields in one way only
pub one_split : {bytes a b c t o l : List ℕ} → HasFields bytes a b c → HasFields bytes t o l
    → ◌≡◌ {A = List ℕ × List ℕ × List ℕ} (a, b, c) (t, o, l)
one_split h k = ok_inj _ _ (sym (fields_again h) ∙ fields_again k)

-- ---- the operation

test_word : (bytes text : List ℕ) (v : Word) (rest o : Option Word) (w : Word) → o ≡ Some w
    → o ≡ cond (bytes_eq bytes text) (Some v) rest → text ≡ spelling v
    → (rest ≡ Some w → bytes ≡ spelling w) → bytes ≡ spelling w
test_word bytes text v rest o w e is sp next =
    elim (cases_Bool (bytes_eq bytes text)) [
      | inl same ↦
          let here : o ≡ Some v = rw same at is in
          let both : Some v ≡ Some w = sym here ∙ e in
          let vw : v ≡ w = cc in
          (bytes_eq-Decides bytes text).0 same ∙ sp ∙ ap spelling vw
      | inr differs ↦
          let there : o ≡ rest = rw differs at is in
          next (sym there ∙ e)
    ]

word_found : (bytes : List ℕ) (w : Word) → word_of bytes ≡ Some w → bytes ≡ spelling w
unfolding word_of
word_found bytes w e =
    test_word bytes (spelling Load) Load _ (word_of bytes) w e refl refl (λ e₁.
    test_word bytes (spelling Store) Store _ _ w e₁ refl refl (λ e₂.
    test_word bytes (spelling Acquire) Acquire _ _ w e₂ refl refl (λ e₃.
    test_word bytes (spelling Release) Release _ _ w e₃ refl refl (λ e₄.
    test_word bytes (spelling Fork) Fork _ _ w e₄ refl refl (λ e₅.
    test_word bytes (spelling Join) Join None _ w e₅ refl refl (λ e₆. absurd cc))))))

-- the field is this operation, or the fault is BadOp
abbrev pub OperationSays : List ℕ → Result (Word × List ℕ) LineFault → Type 0
OperationSays field (Ok o) = field ≡ operation o.0 o.1
OperationSays field (Err f) = f ≡ BadOp

-- the operation that is read of a field is written as the field, and the only fault is BadOp
pub operation_says : (field : List ℕ) → OperationSays field (operation_of field)
operation_says field =
    or_fault_by (OperationSays field) BadOp (cut 40 field) _ (λ none. refl) (λ p at.
    or_fault_by (OperationSays field) BadOp (word_of p.0) _ (λ none. refl) (λ w spelled.
    or_fault_by (OperationSays field) BadOp (before_end 41 p.1) _ (λ none. refl) (λ argument end.
    (IsCut-at 40 field p at).is ∙ ap (λ (t : List ℕ). p.0 ++ 40 ∷ t) (before_end-Some 41 p.1 argument end)
    ∙ ap (λ (t : List ℕ). t ++ 40 ∷ (argument ++ 41 ∷ [])) (word_found p.0 w spelled))))

-- a content has one named event's parts at most
pub one_parts : {bytes : List ℕ} {d e : NamedEvent} → HasParts bytes d → HasParts bytes e → d ≡ e
one_parts {d = d} {e = e} p q =
    let f = one_split p.fields q.fields in
    let field : operation d.word d.argument ≡ operation e.word e.argument =
    ap (λ (x : List ℕ × List ℕ × List ℕ). x.1) f in
    let o : (d.word, d.argument) ≡ (e.word, e.argument) =
    ok_inj _ _ (sym (operation_again d.word d.argument) ∙ ap operation_of field
    ∙ operation_again e.word e.argument) in
    λ i. record { thread = (f i).0; word = (o i).0; argument = (o i).1; location = (f i).2 }

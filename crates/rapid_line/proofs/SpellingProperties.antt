-- What was spelled is read.
use Rattle.std.proofs.Common.{◌≡◌, ℕ, ◌≤◌, false, List, [], ◌∷◌, ◌++◌, length, Some, Ok, refl, sym, ap, ◌∙◌}
use Rattle.std.proofs.Common.{arith}
use Rattle.std.specs.Prelude.{◌==◌, ◌||◌, nat_lt}
use Rattle.std.proofs.lemmas.Bool.{le-ltb, or_from}
use Rattle.std.proofs.lemmas.Bool.Decides.{nat_tests}
use Rattle.std.proofs.lemmas.List.{length-append}
use Rattle.rapid_line.specs.declared.words.Word.{Word}
use Rattle.rapid_line.specs.declared.words.Word.TheVariants.{Load}
use Rattle.rapid_line.specs.Cut.{has, Lacks, cut}
use Rattle.rapid_line.specs.Grammar.{NamedEvent, IsNamed, IsWellFormed, spelling, operation, content_of}
use Rattle.rapid_line.specs.Causes.{HasFields}
use Rattle.rapid_line.specs.Reading.{word_of, fields_of, operation_of, argument_of, line_of, ok_named}
use Rattle.rapid_line.proofs.CutProperties.{Lacks-append, cut_at, before_end_at}

spelling_lacks : (w : Word) → Lacks 40 (spelling w)
spelling_lacks Load = refl
spelling_lacks _ = refl

-- a word has no bar, no CR and no LF, and at most four bytes
pub spelling_plain : (w : Word)
    → Lacks 124 (spelling w) × Lacks 13 (spelling w) × Lacks 10 (spelling w) × (length (spelling w) ≤ 4)
spelling_plain Load = (refl, refl, refl, omega arith)
spelling_plain _ = (refl, refl, refl, omega arith)

word_again : (w : Word) → word_of (spelling w) ≡ Some w
unfolding word_of
word_again Load = refl
word_again _ = refl

-- a field that has a word before its first parenthesis is read as the word and its argument
pub operation_ahead : (field : List ℕ) (w : Word) (rest : List ℕ) → cut 40 field ≡ Some (spelling w, rest)
    → operation_of field ≡ argument_of w rest
operation_ahead field w rest e = rw e (rw (word_again w) refl)

-- an operation is read as it was written
pub operation_again : (w : Word) (argument : List ℕ)
    → operation_of (operation w argument) ≡ Ok (w, argument)
operation_again w argument =
    operation_ahead (operation w argument) w (argument ++ 41 ∷ [])
    (cut_at 40 (spelling w) (argument ++ 41 ∷ []) (spelling_lacks w))
    ∙ rw (before_end_at 41 argument) refl

-- a content of three fields is read as these fields
pub fields_again : {bytes t o l : List ℕ} → HasFields bytes t o l → fields_of bytes ≡ Ok (t, o, l)
fields_again {t = t} {o = o} {l = l} h =
    rw h.is (rw (cut_at 124 t (o ++ 124 ∷ l) h.thread_bar)
    (rw (cut_at 124 o l h.op_bar) (rw h.location_bar refl)))

Lacks-operation : (b : ℕ) (w : Word) (argument : List ℕ) → Lacks b (spelling w) → (40 == b) ≡ false
    → (41 == b) ≡ false → Lacks b argument → Lacks b (operation w argument)
Lacks-operation b w argument s p q a =
    Lacks-append b (spelling w) (40 ∷ (argument ++ 41 ∷ [])) s
    (or_from (40 == b) (has b (argument ++ 41 ∷ [])) p
    (Lacks-append b argument (41 ∷ []) a (or_from (41 == b) false q refl)))

fields_of_event : (e : NamedEvent) → IsWellFormed e
    → HasFields (content_of e) e.thread (operation e.word e.argument) e.location
fields_of_event e h = record {
  is = refl;
  thread_bar = h.thread.field.bar;
  op_bar = Lacks-operation 124 e.word e.argument (spelling_plain e.word).0 refl refl h.argument.field.bar;
  location_bar = h.location.bar;
}

content_no_cr : (e : NamedEvent) → IsWellFormed e → Lacks 13 (content_of e)
content_no_cr e h =
    Lacks-append 13 e.thread (124 ∷ (operation e.word e.argument ++ 124 ∷ e.location)) h.thread.field.cr
    (Lacks-append 13 (operation e.word e.argument) (124 ∷ e.location)
    (Lacks-operation 13 e.word e.argument (spelling_plain e.word).1 refl refl h.argument.field.cr)
    h.location.cr)

content_short : (e : NamedEvent) → IsWellFormed e → length (content_of e) ≤ 773
content_short e h =
    let sp : length (spelling e.word) ≤ 4 = (spelling_plain e.word).3 in
    let a = length-append e.argument (41 ∷ []) in
    let o = length-append (spelling e.word) (40 ∷ (e.argument ++ 41 ∷ [])) in
    let r = length-append (operation e.word e.argument) (124 ∷ e.location) in
    let c = length-append e.thread (124 ∷ (operation e.word e.argument ++ 124 ∷ e.location)) in
    omega (arith, a, o, r, c, h.thread.field.short, h.argument.field.short, h.location.short)

-- a content that has a named event is read as this event
pub read_again : (bytes : List ℕ) (e : NamedEvent) → IsNamed bytes e → line_of bytes ≡ ok_named e
unfolding line_of
read_again bytes e h =
    let len = content_short e h.fits in
    let short : nat_lt 1024 (length (content_of e)) ≡ false = le-ltb 1024 (length (content_of e))
    (omega arith) in
    let some : (length e.thread == 0 || length e.argument == 0) ≡ false =
    grind (arith, nat_tests, h.fits.thread.some, h.fits.argument.some) in
    let long : (nat_lt 255 (length e.thread) || nat_lt 255 (length e.argument)
    || nat_lt 255 (length e.location)) ≡ false = grind (
      arith,
      nat_tests,
      h.fits.thread.field.short,
      h.fits.argument.field.short,
      h.fits.location.short,
    ) in
    ap line_of h.is ∙
    rw (short) (rw (content_no_cr e h.fits) (rw (fields_again (fields_of_event e h.fits))
    (rw (operation_again e.word e.argument) (rw (some, long) refl))))

-- two named events never share a content
pub one_event : (d e : NamedEvent) → IsWellFormed d → IsWellFormed e → content_of d ≡ content_of e → d ≡ e
one_event d e p q same =
    let x = read_again (content_of d) d (record { fits = p; is = refl }) in
    let y = read_again (content_of e) e (record { fits = q; is = refl }) in
    let z : ok_named d ≡ ok_named e = sym x ∙ ap line_of same ∙ y in
    cc

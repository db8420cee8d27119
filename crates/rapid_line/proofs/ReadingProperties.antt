-- The steps of a reading.
use Rattle.std.proofs.Common.{◌≡◌, ℕ, ◌<◌, Bool, true, false, Option, Some, None, Result, Ok, Err, refl}
use Rattle.std.proofs.Common.{arith}
use Rattle.std.specs.Prelude.{◌==◌, OnErr}
use Rattle.std.proofs.lemmas.Bool.{eqb-false}
use Rattle.rapid_line.specs.Reading.{or_fault, unless, and_then}

-- ---- what holds of a fault, and of what a step goes on with, holds of the step

-- what holds of the fault where the test is true, and of the next step where it is false, holds of both
pub unless_by : {B E : Type 0} (P : Result B E → Type 0) (f : E) (b : Bool) (next : Result B E)
    → (b ≡ true → P (Err f)) → (b ≡ false → P next) → P (unless f b next)
unless_by P f true next bad good = bad refl
unless_by P f false next bad good = good refl

-- what holds of the fault where there is no value, and of the next step with a value, holds of both
pub or_fault_by : {A B E : Type 0} (P : Result B E → Type 0) (f : E) (o : Option A) (next : A → Result B E)
    → (o ≡ None → P (Err f)) → ((x : A) → o ≡ Some x → P (next x)) → P (or_fault f o next)
or_fault_by P f None next bad good = bad refl
or_fault_by P f (Some x) next bad good = good x refl

-- what holds of the fault of a first reading, and of the next step with its value, holds of both
pub and_then_by : {A B E : Type 0} (P : Result B E → Type 0) (Q : Result A E → Type 0) (r : Result A E)
    (next : A → Result B E) → Q r → ((f : E) → r ≡ Err f → Q (Err f) → P (Err f))
    → ((x : A) → Q (Ok x) → P (next x)) → P (and_then r next)
and_then_by P Q (Err f) next q bad good = bad f refl q
and_then_by P Q (Ok x) next q bad good = good x q

-- ---- what an Ok says

-- a reading that passed a test is Ok if the test is false and the next step is Ok
pub unless_ok : {B E : Type 0} (f : E) (b : Bool) (r : Result B E) (x : B)
    → unless f b r ≡ Ok x → (b ≡ false) × (r ≡ Ok x)
unless_ok f true r x e = absurd cc
unless_ok f false r x e = (refl, e)

-- two readings, one after the other, are Ok if each of them is
pub and_then_ok : {A B E : Type 0} (r : Result A E) (next : A → Result B E) (y : B)
    → and_then r next ≡ Ok y → (x : A) × (r ≡ Ok x) × (next x ≡ Ok y)
and_then_ok (Err f) next y e = absurd cc
and_then_ok (Ok x) next y e = (x, refl, e)

-- answers that are Ok and the same have the same value
pub ok_inj : {B E : Type 0} (x y : B) → (let r : Result B E = Ok x in r) ≡ Ok y → x ≡ y
ok_inj x y e = cc

-- what holds in any case holds where there is an error
pub where_err : {T E P : Type 0} (r : Result T E) → P → OnErr r P
where_err (Ok x) h = tt
where_err (Err e) h = h

-- a number that is not 0 is greater than 0
pub positive : (n : ℕ) → (n == 0) ≡ false → 0 < n
positive n e = let ne : n ≡ 0 → ⊥ = eqb-false n 0 e in omega arith

-- Races in the order of their events, in a log that grows.
use Rattle.std.proofs.Common.{◌≡◌, ℕ, zero, suc, ◌+◌, ◌<◌, ◌≤◌, List, [], ◌∷◌, ◌++◌, length, get_or}
use Rattle.std.proofs.Common.{Some, None, slice_get, ap, arith}
use Rattle.std.proofs.lemmas.Option.{same_Some, slice_get-get_or}
use Rattle.verdict_list.specs.declared.verdicts.Race.{Race}
use Rattle.verdict_list.specs.Spread.{Rise}

-- if the first race is of the first event, the other races are of later events
pub past_race : (j n : ℕ) (r : Race) (rs : List Race) → r.event ≡ j → Rise j n (r ∷ rs) → Rise (j + 1) n rs
past_race j n r rs same up = rw same at up.2

-- if the first race is not of the first event, all races are of later events
pub past_clear : (j n : ℕ) (r : Race) (rs : List Race) → (r.event ≡ j → ⊥) → Rise j n (r ∷ rs)
    → Rise (j + 1) n (r ∷ rs)
past_clear j n r rs other up = (omega (arith, up.0), up.1, up.2)

-- the races of a log are races of each longer log
pub rise_longer : (j n m : ℕ) (rs : List Race) → n ≤ m → Rise j n rs → Rise j m rs
rise_longer j n m [] le up = tt
rise_longer j n m (r ∷ rs) le up =
    (up.0, omega (arith, up.1), rise_longer (r.event + 1) n m rs le up.2)

-- a race of the next event may join the list
pub rise_pushed : (j n : ℕ) (rs : List Race) (r : Race) → j ≤ n → r.event ≡ n → Rise j n rs
    → Rise j (n + 1) (rs ++ r ∷ [])
rise_pushed j n [] r le e up = (omega arith, omega arith, tt)
rise_pushed j n (s ∷ rs) r le e up =
    (up.0, omega (arith, up.1), rise_pushed (s.event + 1) n rs r (omega (arith, up.1)) e up.2)

-- no race is of an event before the first
pub rise_at : (j n p : ℕ) (rs : List Race) (r : Race) → Rise j n rs → slice_get rs p ≡ Some r → j ≤ r.event
rise_at j n p [] r up at = absurd (let none : None ≡ Some r = at in cc)
rise_at j n zero (s ∷ rs) r up at =
    let same : s.event ≡ r.event = ap (λ (t : Race). t.event) (same_Some s r at) in
    omega (arith, up.0)
rise_at j n (suc p) (s ∷ rs) r up at = omega (arith, up.0, rise_at (s.event + 1) n p rs r up.2 at)

-- of two races the later in the list is of no earlier event
pub rise_between : (j n a b : ℕ) (rs : List Race) (d : Race) → Rise j n rs → a ≤ b → b < length rs
    → (get_or rs a d).event ≤ (get_or rs b d).event
rise_between j n a b [] d up le lt = absurd (omega arith)
rise_between j n zero zero (r ∷ rs) d up le lt = omega arith
rise_between j n zero (suc b) (r ∷ rs) d up le lt =
    let there = slice_get-get_or rs b d (omega arith) in
    omega (arith, rise_at (r.event + 1) n b rs (get_or rs b d) up.2 there)
rise_between j n (suc a) zero (r ∷ rs) d up le lt = absurd (omega arith)
rise_between j n (suc a) (suc b) (r ∷ rs) d up le lt =
    rise_between (r.event + 1) n a b rs d up.2 (omega arith) (omega arith)

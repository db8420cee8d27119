-- What the tests of closed sections meet the conditions by: on each lock at most one section is closed.
use Rattle.std.proofs.Common.{◌≡◌, ℕ, ◌≤◌, Bool, true, false, cond, List, [], ◌∷◌, ◌++◌}
use Rattle.std.proofs.Common.{length, nat_eq, sym, ap, subst, ◌∙◌, arith}
use Rattle.event_core.specs.Closed.{Closed, Has, first, later, is_counted}
use Rattle.event_core.specs.Rows.{with_row}
use Rattle.event_core.proofs.RowsAfterProperties.{row_same}
use Rattle.lock_queues.specs.Searched.{CoversEarlier, IsAboveAll}

-- a table that was written at a thread and a lock
pub written : {A : Type 0} (f g : ℕ → ℕ → A) (t l : ℕ) (x : A) → f ≡ with_row t (with_row l x (g t)) g
    → f t l ≡ x
written f g t l x e =
    ap (λ h. h t l) e ∙ ap (λ h. h l) (row_same t (with_row l x (g t)) g) ∙ row_same l x (g t)

-- no section is above a clock where there is none
pub above_none : (c : ℕ → ℕ) (qs : List Closed) → length qs ≡ 0 → IsAboveAll c qs
above_none c [] e q u h = elim h [ ]
above_none c (p ∷ qs) e q u h = absurd (omega arith)

-- one section is earlier than itself alone
pub earlier_one : (c : ℕ → ℕ) (qs : List Closed) → length qs ≤ 1 → CoversEarlier c qs
earlier_one c [] few p q hp hq le is = elim hp [ ]
earlier_one c (x ∷ y ∷ qs) few p q hp hq le is = absurd (omega arith)
earlier_one c (x ∷ []) few p q hp hq le is = ap (is_counted c) (only p hp ∙ sym (only q hq)) ∙ is
  where
    only : (r : Closed) → Has r (x ∷ []) → r ≡ x
    only r (first b bs same) = same
    only r (later b bs h) = elim h [ ]

-- a lock that had none has one then, and the others have what they had
pub one_closed : (f g : ℕ → List Closed) (l : ℕ) (q : Closed) → f ≡ with_row l (g l ++ q ∷ []) g
    → length (g l) ≡ 0 → ((m : ℕ) → length (g m) ≤ 1) → (m : ℕ) → length (f m) ≤ 1
one_closed f g l q e none few m =
    subst (λ (h : ℕ → List Closed). length (h m) ≤ 1) (sym e) (at (nat_eq m l))
  where
    one : (qs : List Closed) → length qs ≡ 0 → length (qs ++ q ∷ []) ≤ 1
    one [] h = omega arith
    one (p ∷ qs) h = absurd (omega arith)

    at : (b : Bool) → length (cond b (g l ++ q ∷ []) (g m)) ≤ 1
    at true = one (g l) none
    at false = few m

-- What is said of all locks after calls on some of them.
use Rattle.std.proofs.Common.{◌≡◌, ℕ, ◌+◌, ◌<◌, Bool, true, false, not, inl, inr, ◌&&◌, ◌||◌, ◌⊎◌, List}
use Rattle.std.proofs.Common.{length, nat_eq, get_or, take, refl, sym, ap, subst, ◌∙◌}
use Rattle.std.proofs.lemmas.Bool.{cases_eq, eq-eqb, eqb-true, ne_eqb, and_right, or_cases}
use Rattle.std.proofs.lemmas.List.Folds.{list_any_more, list_any_at}
use Rattle.event_core.specs.declared.ids.LockId.{LockId}
use Rattle.event_core.specs.declared.events.AccessKind.{AccessKind}
use Rattle.section_sum.specs.Cell.{is_kind}
use Rattle.section_sum.specs.Entries.{Entries, noted_at, IsAlone, SaysSame, HasNoted, HasClosed}
use Rattle.section_sum.specs.Sums.{is_held}
use Rattle.section_sum.specs.Locks.{SaySame, HaveNoted}
use Rattle.section_sum.proofs.ListProperties.{or_false, and_true}

-- the same is said of each lock where nothing changes
pub same_said : (before : ℕ → Entries) → SaySame before before
same_said before l = record { noted = λ t v k. refl; others = λ v k t. refl; ready = λ v h. h }

-- the same is said of each lock after two changes that each keep it
pub same_then : (before mid after : ℕ → Entries) → SaySame before mid → SaySame mid after
    → SaySame before after
same_then before mid after a b l = record {
  noted = λ t v k. (b l).noted t v k ∙ (a l).noted t v k;
  others = λ v k t. (b l).others v k t ∙ (a l).others v k t;
  ready = λ v h. (b l).ready v ((a l).ready v h);
}

one_more : (o a p q d : Bool) → ((o || (a && (p && d))) || (a && (q && d))) ≡ (o || (a && ((p || q) && d)))
one_more true a p q d = refl
one_more false false p q d = refl
one_more false true true q true = refl
one_more false true true true false = refl
one_more false true true false false = refl
one_more false true false q d = refl

-- an access is noted twice
pub noted_then : (thread var : ℕ) (kind : AccessKind) (a b : Bool) (before mid after : Entries)
    → HasNoted thread var kind a before mid → HasNoted thread var kind b mid after
    → HasNoted thread var kind (a || b) before after
noted_then thread var kind a b before mid after x y = record {
  noted = λ t v k.
      y.noted t v k
      ∙ ap (λ c. c || (nat_eq t thread && (b && (nat_eq v var && is_kind k kind)))) (x.noted t v k)
      ∙ one_more (noted_at before t v k) (nat_eq t thread) a b (nat_eq v var && is_kind k kind);
  others = λ v k t. y.others v k t ∙ x.others v k t;
  ready = λ v h. y.ready v (x.ready v h);
}

-- what is the same has no access more, and no section less
pub noted_none : (thread var : ℕ) (kind : AccessKind) (before after : Entries) → SaysSame before after
    → HasNoted thread var kind false before after
noted_none thread var kind before after s = record {
  noted = λ t v k. s.noted t v k
      ∙ sym (ap (λ b. noted_at before t v k || b) (and_right (nat_eq t thread) false refl)
      ∙ or_false (noted_at before t v k));
  others = s.others;
  ready = s.ready;
}

-- where the same is said, no section has ended
pub closed_none : (thread number : ℕ) (before after : Entries) → SaysSame before after
    → HasClosed thread number false before after
closed_none thread number before after s = record {
  noted = λ t v k. s.noted t v k
      ∙ sym (ap (λ b. noted_at before t v k && not b) (and_right (nat_eq t thread) false refl)
      ∙ and_true (noted_at before t v k));
  others = s.others;
  ready = s.ready;
}

-- where none but the thread had an access, none but the thread has one
pub alone_still : (thread var : ℕ) (kind : AccessKind) (on : Bool) (before mid : Entries)
    → HasNoted thread var kind on before mid → IsAlone before thread → IsAlone mid thread
alone_still thread var kind on before mid a alone t v k n =
    a.noted t v k
    ∙ ap (λ x. noted_at before t v k || (x && (on && (nat_eq v var && is_kind k kind)))) (ne_eqb t thread n)
    ∙ or_false (noted_at before t v k) ∙ alone t v k n

-- something is so of one lock, and something else of the others
pub one_lock : (P : Bool → Entries → Entries → Type 0) (m : ℕ) (before after : ℕ → Entries)
    → P true (before m) (after m) → ((l : ℕ) → (l ≡ m → ⊥) → P false (before l) (after l))
    → (l : ℕ) → P (nat_eq l m) (before l) (after l)
one_lock P m before after here others l = elim (cases_eq l m) [
  | inl e ↦ subst (λ i. P (nat_eq i m) (before i) (after i)) (sym e)
      (subst (λ b. P b (before m) (after m)) (sym (eq-eqb m m refl)) here)
  | inr n ↦ subst (λ b. P b (before l) (after l)) (sym (ne_eqb l m n)) (others l n)
]

-- one more lock of the list
pub held_more : (held : List LockId) (i : ℕ) (m : LockId) → i < length held → (l : ℕ)
    → is_held (take (i + 1) held) l ≡ (is_held (take i held) l || nat_eq l (get_or held i m).0)
held_more held i m h l = list_any_more (λ (x : LockId). nat_eq l x.0) held i m h

-- the access is noted under one more lock
pub noted_step : (thread var : ℕ) (kind : AccessKind) (held : List LockId) (i : ℕ) (m : LockId)
    (before mid after : ℕ → Entries) → i < length held → HaveNoted thread (take i held) var kind before mid
    → HasNoted thread var kind true (mid (get_or held i m).0) (after (get_or held i m).0)
    → ((l : ℕ) → (l ≡ (get_or held i m).0 → ⊥) → SaysSame (mid l) (after l))
    → HaveNoted thread (take (i + 1) held) var kind before after
noted_step thread var kind held i m before mid after h so_far here same l =
    subst (λ on. HasNoted thread var kind on (before l) (after l)) (sym (held_more held i m h l))
    (noted_then thread var kind (is_held (take i held) l) (nat_eq l (get_or held i m).0) (before l) (mid l)
    (after l) (so_far l)
    (one_lock (HasNoted thread var kind) (get_or held i m).0 mid after here
    (λ k n. noted_none thread var kind (mid k) (after k) (same k n)) l))

-- what holds under the locks so far, and under one more
pub held_each : (P : ℕ → Type 0) (held : List LockId) (i : ℕ) (m : LockId) → i < length held
    → ((l : ℕ) → is_held (take i held) l ≡ true → P l) → P (get_or held i m).0
    → (l : ℕ) → is_held (take (i + 1) held) l ≡ true → P l
held_each P held i m h before here l e =
    by (or_cases (is_held (take i held) l) (nat_eq l (get_or held i m).0) (sym (held_more held i m h l) ∙ e))
  where
    by : (is_held (take i held) l ≡ true) ⊎ (nat_eq l (get_or held i m).0 ≡ true) → P l
    by (inl t) = before l t
    by (inr t) = subst P (sym (eqb-true l (get_or held i m).0 t)) here

-- the lock at an index is one of the list
pub is_held_at : (held : List LockId) (i : ℕ) (m : LockId) → i < length held
    → is_held held (get_or held i m).0 ≡ true
is_held_at held i m h =
    list_any_at (λ (x : LockId). nat_eq (get_or held i m).0 x.0) held i m h (eq-eqb _ _ refl)

-- what is none of the locks is not one of them
pub not_held : (held : List LockId) (m : ℕ) → is_held held m ≡ true → (l : ℕ) (b : Bool)
    → (is_held held l && b) ≡ false → (nat_eq l m && b) ≡ false
not_held held m on l b off = elim (cases_eq l m) [
  | inl e ↦ ap (λ x. x && b) (eq-eqb _ _ e) ∙ sym (ap (λ x. x && b) (ap (is_held held) e ∙ on)) ∙ off
  | inr n ↦ ap (λ x. x && b) (ne_eqb _ _ n)
]

-- Who holds each lock after an operation, as how often each thread does.
use Rattle.std.proofs.Common.{◌≡◌, ℕ, ◌<◌, ◌+◌, ◌-◌, List, Bool, ◌&&◌, length, set, cond, nat_eq, refl, sym}
use Rattle.std.proofs.Common.{ap, subst, ◌∙◌, arith, inl, inr, ◌⊎◌}
use Rattle.std.proofs.lemmas.Bool.{cases_eq, eq-eqb}
use Rattle.std.proofs.lemmas.List.{get_or-set_same, get_or-set_other, length-set}
use Rattle.event_core.specs.declared.events.Op.{Op}
use Rattle.event_core.specs.declared.events.Op.TheVariants.{Acquire, Release}
use Rattle.event_core.specs.Rows.{with_row, depth_after}
use Rattle.event_core.specs.Effect.{effect_of, Opens, Closes, Inner}
use Rattle.event_core.proofs.CountedProperties.{nat_eq_same, nat_eq_other}
use Rattle.hb_clocks.specs.declared.holds.Hold.{Hold}
use Rattle.hb_clocks.specs.Holds.{hold_at, no_hold, depths_of, lowered, holds_after, is_outer, effect_by}
use Rattle.hb_clocks.specs.Holds.{HasHold, Alone}
use Rattle.event_core.proofs.RowsAfterProperties.{cell_same, cell_other}

-- no other thread holds the lock that is acquired
abbrev pub AloneAt : List Hold → ℕ → Op → Type 0
AloneAt holds t (Acquire l) = Alone holds t l.0
AloneAt holds t _ = Unit {0}

module _ (holds : List Hold) where
  -- the holder's depth is the lock's
  pub of_holder : (l : ℕ) → depths_of holds (hold_at holds l).holder l ≡ (hold_at holds l).depth
  of_holder l = ap (λ (b : Bool). cond b (hold_at holds l).depth 0) (nat_eq_same (hold_at holds l).holder)

  not_holder : (u l : ℕ) → (u ≡ (hold_at holds l).holder → ⊥) → depths_of holds u l ≡ 0
  not_holder u l n = ap (λ (b : Bool). cond b (hold_at holds l).depth 0)
      (nat_eq_other u (hold_at holds l).holder n)

  is_holder : (u l : ℕ) → u ≡ (hold_at holds l).holder → depths_of holds u l ≡ (hold_at holds l).depth
  is_holder u l e = ap (λ x. depths_of holds x l) e ∙ of_holder l

  -- where no other holds the lock, its depth is the thread's
  pub alone_depth : (t l : ℕ) → Alone holds t l → depths_of holds t l ≡ (hold_at holds l).depth
  alone_depth t l alone = go (cases_eq t (hold_at holds l).holder)
    where
      go : (t ≡ (hold_at holds l).holder) ⊎ (t ≡ (hold_at holds l).holder → ⊥)
          → depths_of holds t l ≡ (hold_at holds l).depth
      go (inl e) = is_holder t l e
      go (inr n) = not_holder t l n ∙ sym (alone (hold_at holds l).holder (λ e. n (sym e))) ∙ of_holder l

  release_outer : (t l : ℕ) → nat_eq (depths_of holds t l) 1 ≡
      (nat_eq (hold_at holds l).holder t && nat_eq (hold_at holds l).depth 1)
  release_outer t l = go (cases_eq t (hold_at holds l).holder)
    where
      go : (t ≡ (hold_at holds l).holder) ⊎ (t ≡ (hold_at holds l).holder → ⊥)
          → nat_eq (depths_of holds t l) 1 ≡
          (nat_eq (hold_at holds l).holder t && nat_eq (hold_at holds l).depth 1)
      go (inl e) = ap (λ n. nat_eq n 1) (is_holder t l e)
          ∙ sym (ap (λ (b : Bool). b && nat_eq (hold_at holds l).depth 1)
          (eq-eqb (hold_at holds l).holder t (sym e)))
      go (inr n) = ap (λ k. nat_eq k 1) (not_holder t l n)
          ∙ sym (ap (λ (b : Bool). b && nat_eq (hold_at holds l).depth 1)
          (nat_eq_other (hold_at holds l).holder t (λ e. n (sym e))))

  -- whether it is outer is what the depths say
  pub outer_effect : (t : ℕ) (op : Op) → AloneAt holds t op
      → effect_of (depths_of holds t) op ≡ effect_by op (is_outer t op holds)
  outer_effect t (Acquire l) alone = ap (λ n. cond (nat_eq n 0) (Opens l) Inner) (alone_depth t l.0 alone)
  outer_effect t (Release l) alone = ap (λ (b : Bool). cond b (Closes l) Inner) (release_outer t l.0)
  outer_effect t _ alone = refl

  hold_same : (l : ℕ) (x : Hold) → l < length holds → hold_at (set holds l x) l ≡ x
  hold_same l x lt = get_or-set_same holds l x no_hold lt

  hold_other : (l k : ℕ) (x : Hold) → (k ≡ l → ⊥) → hold_at (set holds l x) k ≡ hold_at holds k
  hold_other l k x n = get_or-set_other holds l k x no_hold n

  -- one hold is written
  written : (t l v : ℕ) (x : Hold) → l < length holds
      → cond (nat_eq t x.holder) x.depth 0 ≡ v
      → ((u : ℕ) → (u ≡ t → ⊥) → cond (nat_eq u x.holder) x.depth 0 ≡ depths_of holds u l)
      → (u k : ℕ) → depths_of (set holds l x) u k ≡ with_row t (with_row l v (depths_of holds t))
      (depths_of holds) u k
  written t l v x lt mine others u k = go (cases_eq k l)
    where
      new : ℕ → ℕ → ℕ
      new = with_row t (with_row l v (depths_of holds t)) (depths_of holds)

      at_lock : (u ≡ t) ⊎ (u ≡ t → ⊥)
          → cond (nat_eq u x.holder) x.depth 0 ≡ with_row t (with_row l v (depths_of holds t))
          (depths_of holds) u l
      at_lock (inl e) = subst (λ a. cond (nat_eq a x.holder) x.depth 0 ≡ new a l) (sym e) (mine
          ∙ sym (cell_same t l v (depths_of holds)))
      at_lock (inr n) = others u n ∙ sym (cell_other t l v (depths_of holds) u l (λ e q. n e))

      go : (k ≡ l) ⊎ (k ≡ l → ⊥) → depths_of (set holds l x) u k ≡ with_row t
          (with_row l v (depths_of holds t)) (depths_of holds) u k
      go (inl e) = subst (λ b. depths_of (set holds l x) u b ≡ new u b) (sym e)
          (ap (λ (h : Hold). cond (nat_eq u h.holder) h.depth 0) (hold_same l x lt) ∙ at_lock (cases_eq u t))
      go (inr n) = ap (λ (h : Hold). cond (nat_eq u h.holder) h.depth 0) (hold_other l k x n)
          ∙ sym (cell_other t l v (depths_of holds) u k (λ e q. n q))

  acquired : (t l : ℕ) → l < length holds → Alone holds t l → (u k : ℕ)
      → depths_of (set holds l (record { holder = t; depth = (hold_at holds l).depth + 1 })) u k
      ≡ with_row t (with_row l (depths_of holds t l + 1) (depths_of holds t)) (depths_of holds) u k
  acquired t l lt alone =
      let x : Hold = record { holder = t; depth = (hold_at holds l).depth + 1 } in
      written t l (depths_of holds t l + 1) x lt
      (ap (λ (b : Bool). cond b ((hold_at holds l).depth + 1) 0) (nat_eq_same t)
      ∙ ap (λ n. n + 1) (sym (alone_depth t l alone)))
      (λ u n. ap (λ (b : Bool). cond b ((hold_at holds l).depth + 1) 0) (nat_eq_other u t n)
      ∙ sym (alone u n))

  released : (t l : ℕ) → l < length holds → (u k : ℕ)
      → depths_of (set holds l (lowered t (hold_at holds l))) u k
      ≡ with_row t (with_row l (depths_of holds t l - 1) (depths_of holds t)) (depths_of holds) u k
  released t l lt = go (cases_eq (hold_at holds l).holder t)
    where
      h : Hold
      h = hold_at holds l

      low : Hold
      low = record { holder = (hold_at holds l).holder; depth = (hold_at holds l).depth - 1 }

      Goal : Hold → Type 0
      Goal x = (u k : ℕ) → depths_of (set holds l x) u k ≡ with_row t
          (with_row l (depths_of holds t l - 1) (depths_of holds t)) (depths_of holds) u k

      go : ((hold_at holds l).holder ≡ t) ⊎ ((hold_at holds l).holder ≡ t → ⊥)
          → Goal (lowered t (hold_at holds l))
      go (inl e) = subst Goal (sym (ap (λ (b : Bool). cond b low (hold_at holds l))
          (eq-eqb (hold_at holds l).holder t e)))
          (written t l (depths_of holds t l - 1)
          (record { holder = (hold_at holds l).holder; depth = (hold_at holds l).depth - 1 }) lt
          (ap (λ (b : Bool). cond b ((hold_at holds l).depth - 1) 0)
          (eq-eqb t (hold_at holds l).holder (sym e)) ∙ ap (λ n. n - 1) (sym (is_holder t l (sym e))))
          (λ u n. ap (λ (b : Bool). cond b ((hold_at holds l).depth - 1) 0)
          (nat_eq_other u (hold_at holds l).holder (λ q. n (q ∙ e)))
          ∙ sym (not_holder u l (λ q. n (q ∙ e)))))
      go (inr n) = subst Goal (sym (ap (λ (b : Bool). cond b low (hold_at holds l))
          (nat_eq_other (hold_at holds l).holder t n)))
          (written t l (depths_of holds t l - 1) (hold_at holds l) lt
          (let z : depths_of holds t l ≡ 0 = not_holder t l (λ q. n (sym q)) in omega arith)
          (λ u q. refl))

  -- the holds after an operation are the depths after it
  pub depths_after : (t : ℕ) (op : Op) → HasHold (length holds) op → AloneAt holds t op
      → depths_of (holds_after t op holds) ≡ depth_after t op (depths_of holds)
  depths_after t (Acquire l) room alone = λ i u k. acquired t l.0 room alone u k i
  depths_after t (Release l) room alone = λ i u k. released t l.0 room u k i
  depths_after t _ room alone = refl

  -- an operation leaves as many locks in the list
  pub holds_length : (t : ℕ) (op : Op) → length (holds_after t op holds) ≡ length holds
  holds_length t (Acquire l) = length-set holds l.0 _
  holds_length t (Release l) = length-set holds l.0 _
  holds_length t _ = refl

-- the holder of a lock is alone in holding it
pub alone_holder : (holds : List Hold) (t l : ℕ) → (hold_at holds l).holder ≡ t → Alone holds t l
alone_holder holds t l is u n = not_holder holds u l (λ e. n (e ∙ is))

-- another holder is in the way
pub not_alone : (holds : List Hold) (t l : ℕ) → ((hold_at holds l).holder ≡ t → ⊥)
    → ((hold_at holds l).depth ≡ 0 → ⊥) → Alone holds t l → ⊥
not_alone holds t l other some alone = some (sym (of_holder holds l) ∙ alone (hold_at holds l).holder other)

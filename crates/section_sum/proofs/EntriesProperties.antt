-- What is said of a lock after an access is noted, and after a section's end.
use Rattle.std.proofs.Common.{
  ◌≡◌,
  ℕ,
  Bool,
  true,
  false,
  not,
  inl,
  inr,
  cond,
  ◌&&◌,
  ◌||◌,
  ◌⊎◌,
  nat_eq,
  refl,
  sym,
  ap,
  ◌∙◌,
}
use Rattle.std.proofs.lemmas.Bool.{cases_eq, eq-eqb, ne_eqb, or_right, and_right}
use Rattle.event_core.specs.declared.events.AccessKind.{AccessKind}
use Rattle.event_core.specs.declared.events.AccessKind.TheVariants.{Read, Write}
use Rattle.section_sum.specs.declared.cell.Side.{Side}
use Rattle.section_sum.specs.declared.cell.Cell.{Cell}
use Rattle.section_sum.specs.declared.newest.Newest.{Newest}
use Rattle.section_sum.specs.Newest.{others_at, closed_two}
use Rattle.section_sum.specs.Cell.{no_cell, side, is_kind, closed, closed_side, marked_as}
use Rattle.section_sum.specs.Entries.{Entries, noted_at, others_on, IsAlone, SaysSame, HasNoted, HasClosed}
use Rattle.section_sum.proofs.ListProperties.{or_false, and_true}

-- the same cells of the same thread say the same
pub says_same : (before after : Entries) → ((v : ℕ) → after.cell v ≡ before.cell v) → after.by ≡ before.by
    → ((v : ℕ) → before.ready v ≡ true → after.ready v ≡ true) → SaysSame before after
says_same before after cells by ready = record {
  noted = λ t v k.
      ap (λ b. nat_eq t b && (side k (after.cell v)).noted) by
      ∙ ap (λ (c : Cell). nat_eq t before.by && (side k c).noted) (cells v);
  others = λ v k t. ap (λ (c : Cell). others_at (side k c).newest t) (cells v);
  ready = ready;
}

side_closed : (t n : ℕ) (c : Cell) (kind : AccessKind) → side kind (closed t n c)
    ≡ closed_side t n (side kind c)
side_closed t n c Read = refl
side_closed t n c Write = refl

noted_marked_as : (b : Bool) (kind k : AccessKind) (c : Cell)
    → (side k (marked_as b kind c)).noted ≡ ((side k c).noted || (b && is_kind k kind))
noted_marked_as true Read Read c = sym (or_right c.reads.noted true refl)
noted_marked_as true Read Write c = sym (or_false c.writes.noted)
noted_marked_as true Write Read c = sym (or_false c.reads.noted)
noted_marked_as true Write Write c = sym (or_right c.writes.noted true refl)
noted_marked_as false kind k c = sym (or_false (side k c).noted)

newest_marked_as : (b : Bool) (kind k : AccessKind) (c : Cell) → (side k (marked_as b kind c)).newest
    ≡ (side k c).newest
newest_marked_as true Read Read c = refl
newest_marked_as true Read Write c = refl
newest_marked_as true Write Read c = refl
newest_marked_as true Write Write c = refl
newest_marked_as false kind k c = refl

-- where one cell is marked for the thread, its open section has gained the access
pub says_noted : (thread var : ℕ) (kind : AccessKind) (before after : Entries) → IsAlone before thread
    → ((v : ℕ) → after.cell v ≡ marked_as (nat_eq v var) kind (before.cell v)) → after.by ≡ thread
    → ((v : ℕ) → before.ready v ≡ true → after.ready v ≡ true) → HasNoted thread var kind true before after
says_noted thread var kind before after alone cells by ready = record {
  noted = λ t v k.
      ap (λ b. nat_eq t b && (side k (after.cell v)).noted) by
      ∙ ap (λ (c : Cell). nat_eq t thread && (side k c).noted) (cells v)
      ∙ ap (λ b. nat_eq t thread && b) (noted_marked_as (nat_eq v var) kind k (before.cell v))
      ∙ either t v k (cases_eq t thread);
  others = λ v k t. ap (λ (n : Newest). others_at n t) (newest v k);
  ready = ready;
}
  where
    newest : (v : ℕ) (k : AccessKind) → (side k (after.cell v)).newest ≡ (side k (before.cell v)).newest
    newest v k = ap (λ (c : Cell). (side k c).newest) (cells v)
        ∙ newest_marked_as (nat_eq v var) kind k (before.cell v)

    own : (v : ℕ) (k : AccessKind) → (side k (before.cell v)).noted ≡ noted_at before thread v k
    own v k = elim (cases_eq before.by thread) [
      | inl e ↦ sym (ap (λ b. b && (side k (before.cell v)).noted) (eq-eqb thread before.by (sym e)))
      | inr n ↦
          let off : (side k (before.cell v)).noted ≡ false
          = sym (ap (λ b. b && (side k (before.cell v)).noted) (eq-eqb before.by before.by refl))
          ∙ alone before.by v k n in
          off ∙ sym (and_right (nat_eq thread before.by) false refl) ∙ ap
          (λ b. nat_eq thread before.by && b) (sym off)
    ]

    either : (t v : ℕ) (k : AccessKind) → (t ≡ thread) ⊎ (t ≡ thread → ⊥)
        → (nat_eq t thread && ((side k (before.cell v)).noted || (nat_eq v var && is_kind k kind)))
        ≡ (noted_at before t v k || (nat_eq t thread && (nat_eq v var && is_kind k kind)))
    either t v k (inl e) =
        let one : nat_eq t thread ≡ true = eq-eqb t thread e in
        ap (λ b. b && ((side k (before.cell v)).noted || (nat_eq v var && is_kind k kind))) one
        ∙ ap (λ b. b || (nat_eq v var && is_kind k kind)) (own v k ∙ ap (λ s. noted_at before s v k) (sym e))
        ∙ ap (λ b. noted_at before t v k || (b && (nat_eq v var && is_kind k kind))) (sym one)
    either t v k (inr n) =
        let none : nat_eq t thread ≡ false = ne_eqb t thread n in
        ap (λ b. b && ((side k (before.cell v)).noted || (nat_eq v var && is_kind k kind))) none
        ∙ sym (alone t v k n) ∙ sym (or_false (noted_at before t v k))
        ∙ ap (λ b. noted_at before t v k || (b && (nat_eq v var && is_kind k kind))) (sym none)

-- to the thread the newest of the others stays, and to the others it is the section that ended
two : (th number : ℕ) (n : Newest) (t : ℕ) → others_at (closed_two th number n) t
    ≡ cond (nat_eq t th) (others_at n t) number
two th number n t = elim (cases_eq t th) [
  | inl e ↦ ap (λ b. cond b (others_at n th) number) (eq-eqb t th e) ∙ ap (others_at n) (sym e)
      ∙ sym (ap (λ b. cond b (others_at n t) number) (eq-eqb t th e))
  | inr m ↦ ap (λ b. cond b (others_at n th) number) (ne_eqb t th m)
      ∙ sym (ap (λ b. cond b (others_at n t) number) (ne_eqb t th m))
]

-- where an access was noted the section is the others' newest
closed_says : (th number : ℕ) (s : Side) (t : ℕ) → others_at (closed_side th number s).newest t
    ≡ cond (not (nat_eq t th) && s.noted) number (others_at s.newest t)
closed_says th number s t = by s.noted
  where
    effect : (b : Bool) (x y : ℕ) → cond b x y ≡ cond (not b && true) y x
    effect true x y = refl
    effect false x y = refl

    by : (b : Bool) → others_at (cond b (closed_two th number s.newest) s.newest) t
        ≡ cond (not (nat_eq t th) && b) number (others_at s.newest t)
    by true = two th number s.newest t ∙ effect (nat_eq t th) _ _
    by false = ap (λ b. cond b number (others_at s.newest t)) (sym (and_right (not (nat_eq t th)) false refl))

-- the open section is the thread's
pub says_closed : (thread number : ℕ) (before after : Entries)
    → ((v : ℕ) → after.cell v ≡ closed before.by number (before.cell v)) → after.by ≡ before.by
    → ((v : ℕ) → before.ready v ≡ true → after.ready v ≡ true) → before.by ≡ thread
    → HasClosed thread number true before after
says_closed thread number before after cells by ready own = record {
  noted = λ t v k.
      ap (λ b. nat_eq t after.by && b) (ap (λ (s : Side). s.noted) (sides v k))
      ∙ and_right (nat_eq t after.by) false refl
      ∙ sym (ap (λ b. (nat_eq t before.by && (side k (before.cell v)).noted) && not (nat_eq t b)) (sym own)
      ∙ never (nat_eq t before.by) (side k (before.cell v)).noted)
      ∙ ap (λ b. noted_at before t v k && not b) (sym (and_true (nat_eq t thread)));
  others = λ v k t.
      ap (λ (s : Side). others_at s.newest t) (sides v k)
      ∙ closed_says before.by number (side k (before.cell v)) t
      ∙ ap (λ b. cond (not (nat_eq t before.by) && b) number (others_on before v k t))
      (sym (ap (λ b. b && (side k (before.cell v)).noted) (eq-eqb before.by before.by refl)))
      ∙ ap (λ b. cond (not (nat_eq t b) && noted_at before b v k) number (others_on before v k t)) own;
  ready = ready;
}
  where
    sides : (v : ℕ) (k : AccessKind) → side k (after.cell v)
        ≡ closed_side before.by number (side k (before.cell v))
    sides v k = ap (side k) (cells v) ∙ side_closed before.by number (before.cell v) k

    never : (a b : Bool) → ((a && b) && not a) ≡ false
    never true b = and_right b false refl
    never false b = refl

side_off : (k : AccessKind) → (side k no_cell).noted ≡ false
side_off Read = refl
side_off Write = refl

-- cells without accesses
pub none_noted : (p : Entries) → ((v : ℕ) → p.cell v ≡ no_cell) → (t v : ℕ) (k : AccessKind)
    → noted_at p t v k ≡ false
none_noted p none t v k =
    ap (λ (c : Cell). nat_eq t p.by && (side k c).noted) (none v)
    ∙ ap (λ b. nat_eq t p.by && b) (side_off k) ∙ and_right (nat_eq t p.by) false refl

-- where no cell has anything, no section by another thread is there
pub none_others : (p : Entries) → ((v : ℕ) → p.cell v ≡ no_cell) → (v : ℕ) (k : AccessKind) (t : ℕ)
    → others_on p v k t ≡ 0
none_others p none v k t = ap (λ (c : Cell). others_at (side k c).newest t) (none v) ∙ zero k
  where
    zeros : (b : Bool) → cond {A = ℕ} b 0 0 ≡ 0
    zeros true = refl
    zeros false = refl

    zero : (k : AccessKind) → others_at (side k no_cell).newest t ≡ 0
    zero Read = zeros (nat_eq t 0)
    zero Write = zeros (nat_eq t 0)

-- no section had an access
pub says_none : (thread number : ℕ) (p : Entries) → ((v : ℕ) → p.cell v ≡ no_cell)
    → HasClosed thread number true p p
says_none thread number p none = record {
  noted = λ t v k.
      none_noted p none t v k ∙ sym (ap (λ b. b && not (nat_eq t thread && true)) (none_noted p none t v k));
  others = λ v k t.
      sym (ap (λ b. cond b number (others_on p v k t))
      (ap (λ b. not (nat_eq t thread) && b) (none_noted p none thread v k)
      ∙ and_right (not (nat_eq t thread)) false refl));
  ready = λ v h. h;
}

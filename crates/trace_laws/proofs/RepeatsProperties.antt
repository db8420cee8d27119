-- What an access that its thread made before changes: nothing that follows from the first does not.
use Rattle.std.proofs.Common.{◌≡◌, ℕ, ◌<◌, ◌≤◌, List, true, sym, subst, ◌∙◌, arith, ◌⊎◌}
use Rattle.std.proofs.lemmas.Bool.{cases_lt, cases_order}
use mathlib.Core.Logic.{inl, inr}
use Rattle.event_core.specs.declared.ids.ThreadId.{ThreadId}
use Rattle.event_core.specs.declared.events.Event.{Event}
use Rattle.event_core.specs.declared.events.Op.{Op}
use Rattle.event_core.specs.declared.events.Op.TheVariants.{Join}
use Rattle.event_core.specs.Log.{Does, Of, Conflict, OpsConflict}
use Rattle.event_core.specs.Order.{here, step, ProgramEdge, same_thread, fork_to_event, fork_to_join}
use Rattle.event_core.specs.Order.{event_to_join, HbEdge, program, lock, Po, Hb}
use Rattle.event_core.specs.Verdict.{Races}
use Rattle.event_core.specs.Wcp.{Strict, rule_a, rule_b, rule_c_left, rule_c_right, Below}
use Rattle.event_core.proofs.ConflictProperties.{flipped}
use Rattle.event_core.proofs.OrderProperties.{chain_one, chain_trans, hb_trans, hb_thread, po_thread}
use Rattle.event_core.proofs.OrderProperties.{po_forward}
use Rattle.event_core.proofs.LogProperties.{of_does, of_one, does_op, does_thread}
use Rattle.event_core.proofs.RecurrenceProperties.{strict_forward}
use Rattle.trace_laws.specs.Repeats.{is_access, Ordered, Repeats}

-- no operation but an access is one
pub only_access : {log : List Event} {g : ℕ} {u v : ThreadId} {o p : Op} → Does log g u o → is_access o ≡ true
    → Does log g v p → is_access p ≡ true
only_access d t e = subst (λ (q : Op). is_access q ≡ true) (does_op d e) t

-- an event of the thread from p to k
pub record Stretch (log : List Event) (u : ThreadId) (p k n : ℕ) : Type 0 where
  pub from : p ≤ n
  pub to : n ≤ k
  pub of : Of log n u

-- an event of the thread from p to k is an access
pub in_stretch : {log : List Event} {p k n : ℕ} {q : Op} {v : ThreadId} → (r : Repeats log p k)
    → Stretch log r.thread p k n → Does log n v q → is_access q ≡ true
in_stretch {log = log} {p = p} {k = k} {n = n} {q = q} {v = v} r s d = elim (cases_order p n) [
  | inl e ↦ only_access (subst (λ (i : ℕ). Does log i r.thread r.op) e r.first) r.access d
  | inr a ↦ elim a [
    | inr gt ↦ absurd (let from = s.from in omega (arith, gt, from))
    | inl lt ↦ elim (cases_order n k) [
      | inl e ↦ only_access (subst (λ (i : ℕ). Does log i r.thread r.op) (sym e) r.again) r.access d
      | inr b ↦ elim b [
        | inr gt ↦ absurd (let to = s.to in omega (arith, gt, to))
        | inl lt2 ↦
            r.quiet n q lt lt2 (subst (λ (u : ThreadId). Does log n u q) (of_one (of_does d) s.of) d)
      ]
    ]
  ]
]

-- what a chain from the first access leads to is in the stretch, or a chain from the second leads there
program_leaves : {log : List Event} {p k : ℕ} (g j : ℕ) → Ordered log → (r : Repeats log p k)
    → Stretch log r.thread p k g → ProgramEdge log g j → Stretch log r.thread p k j ⊎ ProgramEdge log k j
program_leaves {log = log} {p = p} {k = k} g j w r s (same_thread u lt x y) =
    let mine : Of log j r.thread = subst (λ (v : ThreadId). Of log j v) (of_one x s.of) y in
    elim (cases_lt k j) [
      | inl after ↦ inr (same_thread r.thread after (of_does r.again) mine)
      | inr to ↦ inl (
          record { from = (let from : p ≤ g = s.from in omega (arith, from, lt)); to = to; of = mine }
          )
    ]
program_leaves g j w r s (fork_to_event u v lt x y) = absurd (let no = in_stretch r s x in cc)
program_leaves g j w r s (fork_to_join u v z lt x y) = absurd (let no = in_stretch r s x in cc)
program_leaves {log = log} {k = k} g j w r s (event_to_join u z lt x y) =
    let ends : Does log j z (Join r.thread)
    = subst (λ (v : ThreadId). Does log j z (Join v)) (of_one x s.of) y in
    inr (event_to_join r.thread z (w.rest j k r.thread z ends (of_does r.again)) (of_does r.again) ends)

po_leaves : {log : List Event} {p k j : ℕ} → Ordered log → (r : Repeats log p k)
    → Po log p j → Stretch log r.thread p k j ⊎ Po log k j
po_leaves {p = p} {k = k} w r here = inl (
    record {
      from = omega arith;
      to = (let lt : p < k = r.before in omega (arith, lt));
      of = of_does r.first;
    }
    )
po_leaves {j = j} w r (step {g = g} c e) = elim (po_leaves w r c) [
  | inr h ↦ inr (step h e)
  | inl s ↦ elim (program_leaves g j w r s e) [ inl t ↦ inl t | inr f ↦ inr (chain_one f) ]
]

hb_leaves : {log : List Event} {p k j : ℕ} → Ordered log → (r : Repeats log p k)
    → Hb log p j → Stretch log r.thread p k j ⊎ Hb log k j
hb_leaves {p = p} {k = k} w r here = inl (
    record {
      from = omega arith;
      to = (let lt : p < k = r.before in omega (arith, lt));
      of = of_does r.first;
    }
    )
hb_leaves {log = log} {p = p} {k = k} {j = j} w r (step {g = g} c e) = elim (hb_leaves w r c) [
  | inr h ↦ inr (step h e)
  | inl s ↦ leave s e
]
  where
    leave : Stretch log r.thread p k g → HbEdge log g j → Stretch log r.thread p k j ⊎ Hb log k j
    leave s (program f) =
        elim (program_leaves g j w r s f) [ inl t ↦ inl t | inr f ↦ inr (chain_one (program f)) ]
    leave s (lock u v l lt x y) = absurd (let no = in_stretch r s x.does in cc)

-- what the first access is strictly ordered before, the second is
strict_leaves : {log : List Event} {p k i j : ℕ} → Ordered log → (r : Repeats log p k)
    → Strict log i j → Hb log p i → Strict log k j
strict_leaves w r (rule_a d) h = elim (hb_leaves w r h) [
  | inl s ↦ absurd (let no = in_stretch r s d.in_section.section.closed.does in cc)
  | inr g ↦ rule_c_left g (rule_a d)
]
strict_leaves w r (rule_b l lt a b d) h = elim (hb_leaves w r h) [
  | inl s ↦ absurd (let no = in_stretch r s a.section.closed.does in cc)
  | inr g ↦ rule_c_left g (rule_b l lt a b d)
]
strict_leaves w r (rule_c_left g d) h = strict_leaves w r d (hb_trans h g)
strict_leaves w r (rule_c_right d g) h = rule_c_right (strict_leaves w r d h) g

-- so is an event of another thread
below_leaves : {log : List Event} {p k j : ℕ} → Ordered log → (r : Repeats log p k)
    → (Of log j r.thread → ⊥) → Below log p j → Below log k j
below_leaves w r other (inl d) = inl (strict_leaves w r d here)
below_leaves w r other (inr c) = elim (po_leaves w r c) [
  | inl s ↦ absurd (other s.of)
  | inr h ↦ inr h
]

-- conflicts of the one access are those of the other
pub first_conflict : {log : List Event} {p k j : ℕ} → (r : Repeats log p k) → Conflict log k j
    → Conflict log p j
first_conflict r c = record {
  first = r.op;
  second = c.second;
  by = r.thread;
  other = c.other;
  does_first = r.first;
  does_second = c.does_second;
  ops = subst (λ (o : Op). OpsConflict o c.second) (does_op c.does_first r.again) c.ops;
  threads = λ e. c.threads (does_thread c.does_first r.again ∙ e);
}

-- what conflicts with the second access conflicts with the first
pub second_conflict : {log : List Event} {p k i : ℕ} → (r : Repeats log p k) → Conflict log i k
    → Conflict log i p
second_conflict r c = flipped (first_conflict r (flipped c))

-- what races with the second access races with the first
pub later_races : {log : List Event} {p k j : ℕ} → Ordered log → (r : Repeats log p k)
    → Races log k j → Races log p j
later_races {p = p} {k = k} {j = j} w r s = record {
  before = (let a : p < k = r.before in let b : k < j = s.before in omega (arith, a, b));
  conflict = first_conflict r s.conflict;
  unordered =
      λ b. s.unordered (below_leaves w r
      (λ o. s.conflict.threads (does_thread s.conflict.does_first r.again
      ∙ of_one o (of_does s.conflict.does_second))) b);
}

-- what races with the second access, and is before it, races with the first
pub earlier_races : {log : List Event} {p k i : ℕ} → Ordered log → (r : Repeats log p k)
    → Races log i k → Races log i p ⊎ Races log p i
earlier_races {log = log} {p = p} {k = k} {i = i} w r s = elim (cases_order i p) [
  | inl e ↦ absurd (other (subst (λ (n : ℕ). Of log n r.thread) (sym e) (of_does r.first)))
  | inr a ↦ elim a [
    | inl lt ↦ inl (
        record {
          before = lt;
          conflict = second_conflict r s.conflict;
          unordered = λ b. s.unordered (still b);
        }
        )
    | inr gt ↦ inr (
        record {
          before = gt;
          conflict = flipped (second_conflict r s.conflict);
          unordered = λ b. late (below_leaves w r other b);
        }
        )
  ]
]
  where
    other : Of log i r.thread → ⊥
    other o =
        s.conflict.threads (of_one (of_does s.conflict.does_first) o
        ∙ does_thread r.again s.conflict.does_second)

    up : p ≤ k
    up = let lt : p < k = r.before in omega (arith, lt)

    still : Below log i p → Below log i k
    still (inl d) = inl (rule_c_right d (hb_thread r.thread (of_does r.first) (of_does r.again) up))
    still (inr c) = inr (chain_trans c (po_thread r.thread (of_does r.first) (of_does r.again) up))

    late : Below log k i → ⊥
    late (inl d) = let a : k < i = strict_forward d in let b : i < k = s.before in omega (arith, a, b)
    late (inr c) = let a : k ≤ i = po_forward c in let b : i < k = s.before in omega (arith, a, b)

-- Without an access that its thread made before, the same pairs race.
use Rattle.std.proofs.Common.{◌≡◌, ℕ, ◌<◌, ◌≤◌, List, ◌∷◌, ◌++◌, true, length}
use Rattle.std.proofs.Common.{sym, ap}
use Rattle.std.proofs.Common.{subst, ◌∙◌, arith, take, ◌⊎◌, Some, ◌↔◌}
use Rattle.std.proofs.lemmas.Bool.{cases_lt, cases_eq}
use mathlib.Core.Logic.{inl, inr}
use Rattle.event_core.specs.declared.ids.ThreadId.{ThreadId}
use Rattle.event_core.specs.declared.ids.LockId.{LockId}
use Rattle.event_core.specs.declared.events.Event.{Event}
use Rattle.event_core.specs.declared.events.Op.{Op}
use Rattle.event_core.specs.declared.bounds.Limits.{Limits}
use Rattle.event_core.specs.Log.{Does, Of, depth, Inside, InSection, OuterAcquire, Conflict}
use Rattle.event_core.specs.Order.{Hb}
use Rattle.event_core.specs.Orderly.{Orderly}
use Rattle.event_core.specs.Refusal.{WellFormed}
use Rattle.event_core.specs.Verdict.{Races}
use Rattle.event_core.specs.Wcp.{Meets}
use Rattle.event_core.proofs.OrderProperties.{hb_trans, hb_thread}
use Rattle.event_core.proofs.EndedLaw.{ended_rest}
use Rattle.event_core.proofs.OrderlyProperties.{orderly}
use Rattle.event_core.proofs.LogProperties.{of_does, of_one, does_op, does_thread}
use Rattle.trace_laws.specs.Repeats.{is_access, Ordered, Repeats, RaceBetween}
use Rattle.trace_laws.proofs.MovedLogs.{Moved, lt_to, does_to, does_from, of_from, from_does, from_of}
use Rattle.trace_laws.proofs.MovedLogs.{meets_to}
use Rattle.trace_laws.proofs.MovedRelations.{KeepsPremises}
use Rattle.trace_laws.proofs.RepeatsProperties.{in_stretch, first_conflict, second_conflict, later_races}
use Rattle.trace_laws.proofs.RepeatsProperties.{earlier_races}
use Rattle.trace_laws.proofs.Skips.{skip, onto, skipped, at_seam}
use Rattle.trace_laws.proofs.MovedVerdicts.{Same, races_to, races_from}

-- a section that the second access is in, the first is in too
acquired_before : {log : List Event} {p k a : ℕ} {u : ThreadId} {l : LockId} → (r : Repeats log p k)
    → u ≡ r.thread → OuterAcquire log a u l → a ≤ k → a < p
acquired_before {log = log} {p = p} {k = k} {a = a} r same o le = elim (cases_lt a p) [
  | inl lt ↦ lt
  | inr ge ↦
      let mine : Of log a r.thread = subst (λ (v : ThreadId). Of log a v) same (of_does o.does) in
      absurd (let no = in_stretch r (record { from = ge; to = le; of = mine }) o.does in cc)
]

first_inside : {log : List Event} {p k a : ℕ} {u : ThreadId} {l : LockId} → Repeats log p k
    → Inside log u l a k → Inside log u l a p
first_inside {log = log} {p = p} {k = k} {a = a} {u = u} r h =
    let same : u ≡ r.thread = of_one h.of (of_does r.again) in
    let lt : a < p = acquired_before r same h.opened h.from in
    let up : p < k = r.before in
    record {
      opened = h.opened;
      of = subst (λ (v : ThreadId). Of log p v) (sym same) (of_does r.first);
      from = omega (arith, lt);
      held = λ n gt le. h.held n gt (omega (arith, le, up));
    }

first_in_section : {log : List Event} {p k s : ℕ} {l : LockId} → Repeats log p k → InSection log l s k
    → InSection log l s p
first_in_section {log = log} {p = p} {k = k} {s = s} r h =
    let same : h.thread ≡ r.thread = of_one h.of (of_does r.again) in
    let lt : h.acquire < p = acquired_before r same h.section.inside.opened h.from in
    let up : p < k = r.before in
    let to : k ≤ s = h.to in
    record {
      thread = h.thread;
      acquire = h.acquire;
      section = h.section;
      of = subst (λ (v : ThreadId). Of log p v) (sym same) (of_does r.first);
      from = omega (arith, lt);
      to = omega (arith, up, to);
    }

-- a section that meets the second access ends before the first
ends_before : {log : List Event} {p k s : ℕ} → Orderly log → Repeats log p k → Meets log s k → s < p
ends_before {log = log} {p = p} {k = k} {s = s} w r m = elim (cases_lt s p) [
  | inl lt ↦ lt
  | inr ge ↦
      let before : s < k = m.before in
      let same : m.thread ≡ r.thread = of_one m.inside.of (of_does r.again) in
      let opened : m.acquire < p = acquired_before r same m.inside.opened m.inside.from in
      let mine : 0 < depth (take s log) m.thread m.lock
      = m.inside.held s (omega (arith, opened, ge)) (omega (arith, before)) in
      let theirs : 0 < depth (take s log) m.in_section.thread m.lock
      = w.held_at_release s m.in_section.thread m.lock m.in_section.section.closed.does in
      let one : m.in_section.thread ≡ m.thread
      = w.one_holder s m.in_section.thread m.thread m.lock theirs mine in
      absurd (m.conflict.threads (of_one (of_does m.conflict.does_first) m.in_section.of
      ∙ (one ∙ of_one m.inside.of (of_does m.conflict.does_second))))
]

-- the premise of rule (a), by the first access in place of the second
record Other (log : List Event) (k s i : ℕ) : Type 0 where
  pub meets : Meets log s i
  pub apart : meets.access ≡ k → ⊥

other_access : {log : List Event} {p k s i : ℕ} → Repeats log p k → Meets log s i → Other log k s i
other_access {log = log} {p = p} {k = k} {s = s} {i = i} r m = elim (cases_eq m.access k) [
  | inr n ↦ record { meets = m; apart = n }
  | inl e ↦
      record {
        meets = record {
          before = m.before;
          lock = m.lock;
          thread = m.thread;
          acquire = m.acquire;
          inside = m.inside;
          access = p;
          in_section = first_in_section r (subst (λ (n : ℕ). InSection log m.lock s n) e m.in_section);
          conflict = first_conflict r (subst (λ (n : ℕ). Conflict log n i) e m.conflict);
        };
        apart = λ h. (let lt : p < k = r.before in omega (arith, lt, h));
      }
]

keeps : {log other : List Event} {to : ℕ → ℕ} {p k : ℕ} → Moved log other (λ i. i ≡ k → ⊥) to → Orderly log
    → Repeats log p k → KeepsPremises log other (λ i. i ≡ k → ⊥) to
keeps {log = log} {other = other} {to = to} {p = p} {k = k} a w r s i j m kj h = elim (cases_eq i k) [
  | inr n ↦
      let o = other_access r m in
      record { access = i; kept = n; below = h; meets = meets_to a n o.meets o.apart }
  | inl e ↦
      let at_k : Meets log s k = subst (λ (n : ℕ). Meets log s n) e m in
      let o = other_access r at_k in
      let c = o.meets in
      let lt : p < k = r.before in
      let first : Meets log s p = record {
        before = ends_before w r c;
        lock = c.lock;
        thread = c.thread;
        acquire = c.acquire;
        inside = first_inside r c.inside;
        access = c.access;
        in_section = c.in_section;
        conflict = second_conflict r c.conflict;
      } in
      let kept : p ≡ k → ⊥ = λ q. omega (arith, lt, q) in
      record {
        access = p;
        kept = kept;
        below =
            hb_trans (hb_thread r.thread (of_does r.first) (of_does r.again) (omega (arith, lt)))
            (subst (λ (n : ℕ). Hb log n j) e h);
        meets = meets_to a kept first o.apart;
      }
]

-- what the second access does, the first does
first_does : {log : List Event} {p k : ℕ} {u : ThreadId} {o : Op} → Repeats log p k → Does log k u o
    → Does log p u o
first_does {log = log} {p = p} {u = u} r d =
    subst (λ (q : Op). Does log p u q) (does_op r.again d)
    (subst (λ (v : ThreadId). Does log p v r.op) (does_thread r.again d) r.first)

abbrev Are : List Event → ThreadId → Op → ThreadId → Op → ℕ → ℕ → Type 0
Are log u o v q i j = (Does log i u o × Does log j v q) ⊎ (Does log i v q × Does log j u o)

are_swapped : {log : List Event} {u v : ThreadId} {o q : Op} {i j : ℕ} → Are log u o v q i j
    → Are log u o v q j i
are_swapped (inl d) = inr (d.1, d.0)
are_swapped (inr d) = inl (d.1, d.0)

are_first : {log : List Event} {u v : ThreadId} {o q : Op} {p k j : ℕ} → Repeats log p k
    → Are log u o v q k j → Are log u o v q p j
are_first r (inl d) = inl (first_does r d.0, d.1)
are_first r (inr d) = inr (first_does r d.0, d.1)

pair_to : {log other : List Event} {to : ℕ → ℕ} {p k : ℕ} {u v : ThreadId} {o q : Op}
    → Same log other (λ i. i ≡ k → ⊥) to → Ordered log → Repeats log p k → RaceBetween log u o v q
    → RaceBetween other u o v q
pair_to {log = log} {other = other} {to = to} {p = p} {k = k} {u = u} {v = v} {o = o} {q = q} s w r b =
    elim (cases_eq b.first k) [
      | inl e ↦ at_first (subst (λ (n : ℕ). Races log n b.second) e b.races)
          (subst (λ (n : ℕ). Are log u o v q n b.second) e b.are)
      | inr n ↦ elim (cases_eq b.second k) [
        | inr n2 ↦ moved b.first b.second n n2 b.races b.are
        | inl e ↦ at_second n (subst (λ (n : ℕ). Races log b.first n) e b.races)
            (subst (λ (n : ℕ). Are log u o v q b.first n) e b.are)
      ]
    ]
  where
    apart : p ≡ k → ⊥
    apart e = let lt : p < k = r.before in omega (arith, lt, e)

    moved : (i j : ℕ) → (i ≡ k → ⊥) → (j ≡ k → ⊥) → Races log i j → Are log u o v q i j
        → RaceBetween other u o v q
    moved i j ki kj race (inl d) = record {
      first = to i;
      second = to j;
      races = races_to s i j ki kj race;
      are = inl (does_to s.moved ki d.0, does_to s.moved kj d.1);
    }
    moved i j ki kj race (inr d) = record {
      first = to i;
      second = to j;
      races = races_to s i j ki kj race;
      are = inr (does_to s.moved ki d.0, does_to s.moved kj d.1);
    }

    at_first : Races log k b.second → Are log u o v q k b.second → RaceBetween other u o v q
    at_first race are =
        let lt : k < b.second = race.before in
        moved p b.second apart (λ e. omega (arith, lt, e)) (later_races w r race) (are_first r are)

    at_second : (b.first ≡ k → ⊥) → Races log b.first k → Are log u o v q b.first k
        → RaceBetween other u o v q
    at_second n race are =
        let turned : Are log u o v q p b.first = are_first r (are_swapped are) in
        elim (earlier_races w r race) [
          | inl h ↦ moved b.first p n apart h (are_swapped turned)
          | inr h ↦ moved p b.first apart n h turned
        ]

pair_from : {log other : List Event} {Kept : ℕ → Type 0} {to : ℕ → ℕ} {u v : ThreadId} {o q : Op}
    → Same log other Kept to → RaceBetween other u o v q → RaceBetween log u o v q
pair_from {log = log} {other = other} {to = to} {u = u} {v = v} {o = o} {q = q} s b =
    let i = from_does s.moved b.races.conflict.does_first in
    let j = from_does s.moved b.races.conflict.does_second in
    let race : Races other (to i.0) (to j.0)
    = subst (λ (n : ℕ). Races other n (to j.0)) (sym i.2)
    (subst (λ (n : ℕ). Races other b.first n) (sym j.2) b.races) in
    record {
      first = i.0;
      second = j.0;
      races = races_from s i.0 j.0 i.1 j.1 race;
      are = elim b.are [
        | inl d ↦ inl (does_from s.moved i.1 i.2 d.0, does_from s.moved j.1 j.2 d.1)
        | inr d ↦ inr (does_from s.moved i.1 i.2 d.0, does_from s.moved j.1 j.2 d.1)
      ];
    }

-- the locks, forks and joins stay in order
ordered_too : (xs ys : List Event) (e : Event)
    → Moved (xs ++ e ∷ ys) (xs ++ ys) (λ i. i ≡ length xs → ⊥) (skip (length xs)) → Ordered (xs ++ e ∷ ys)
    → Ordered (xs ++ ys)
ordered_too xs ys e a w = record {
  orderly = record {
    one_holder = one_holder;
    held_at_release =
        λ x u l d. (
        let i = from_does a d in
        subst (λ (n : ℕ). 0 < depth (take n (xs ++ ys)) u l) i.2
        (subst (λ (n : ℕ). 0 < n) (sym (a.depths i.0 u l))
        (w.orderly.held_at_release i.0 u l (does_from a i.1 i.2 d))));
    fork_first =
        λ g k u v d o. (
        let i = from_does a d in
        let j = from_of a o in
        let lt : i.0 < j.0 = w.orderly.fork_first i.0 j.0 u v (does_from a i.1 i.2 d) (of_from a j.1 j.2 o) in
        before i.0 j.0 i.1 lt i.2 j.2);
  };
  rest =
      λ j k u v d o. (
      let i = from_does a d in
      let n = from_of a o in
      let lt : n.0 < i.0 = w.rest i.0 n.0 u v (does_from a i.1 i.2 d) (of_from a n.1 n.2 o) in
      before n.0 i.0 n.1 lt n.2 i.2);
}
  where
    before : (i j : ℕ) {x y : ℕ} → (i ≡ length xs → ⊥) → i < j → skip (length xs) i ≡ x
        → skip (length xs) j ≡ y → x < y
    before i j k lt p q = let up = lt_to a k lt in omega (arith, up, p, q)

    one_holder : (k : ℕ) (u v : ThreadId) (l : LockId) → 0 < depth (take k (xs ++ ys)) u l
        → 0 < depth (take k (xs ++ ys)) v l → u ≡ v
    one_holder k u v l p q =
        let n = onto (length xs) k in
        let back : (t : ThreadId) → 0 < depth (take k (xs ++ ys)) t l
        → 0 < depth (take n.0 (xs ++ e ∷ ys)) t l
        = λ t h. subst (λ (c : ℕ). 0 < c) (a.depths n.0 t l)
        (subst (λ (c : ℕ). 0 < depth (take c (xs ++ ys)) t l) (sym n.2) h) in
        w.orderly.one_holder n.0 u v l (back u p) (back v q)

-- a well-formed log is ordered
pub ordered_log : (m : Limits) (log : List Event) → WellFormed m log → Ordered log
ordered_log m log w = record {
  orderly = orderly m log w;
  rest = λ j k u v d o. ended_rest m log u v j k w d o;
}

-- a repeated access can be left out: the same pairs of threads and operations race
pub same_pairs : (before after : List Event) (e : Event) (p : ℕ) → Ordered (before ++ e ∷ after)
    → Repeats (before ++ e ∷ after) p (length before)
    → Ordered (before ++ after)
    × ((u v : ThreadId) (o q : Op)
    → RaceBetween (before ++ e ∷ after) u o v q ↔ RaceBetween (before ++ after) u o v q)
same_pairs before after e p w r = (
  ordered_too before after e moved w,
  λ u v o q. ((λ b. pair_to s w r b), (λ b. pair_from s b)),
)
  where
    access : is_access e.op ≡ true
    access =
        let same : Some r.again.event ≡ Some e = sym r.again.at ∙ at_seam before after e in
        let is : r.again.event ≡ e = cc in
        subst (λ (x : Op). is_access x ≡ true) (sym r.again.does ∙ ap (λ (f : Event). f.op) is) r.access

    moved : Moved (before ++ e ∷ after) (before ++ after) (λ i. i ≡ length before → ⊥) (skip (length before))
    moved = skipped before after e access

    s : Same (before ++ e ∷ after) (before ++ after) (λ i. i ≡ length before → ⊥) (skip (length before))
    s = record { moved = moved; premises = keeps moved w.orderly r }

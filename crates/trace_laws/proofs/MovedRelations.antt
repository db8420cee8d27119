-- The relations between the events that both logs have are the same.
use Rattle.std.proofs.Common.{◌≡◌, ℕ, ◌<◌, List, true, refl, sym, subst, ◌∙◌, arith}
use Rattle.std.proofs.Common.{◌⊎◌}
use mathlib.Core.Logic.{inl, inr}
use Rattle.event_core.specs.declared.ids.ThreadId.{ThreadId}
use Rattle.event_core.specs.declared.ids.LockId.{LockId}
use Rattle.event_core.specs.declared.events.Event.{Event}
use Rattle.event_core.specs.declared.events.Op.{Op}
use Rattle.event_core.specs.declared.events.Op.TheVariants.{Fork}
use Rattle.event_core.specs.Log.{Does, Of, InSection}
use Rattle.event_core.specs.Order.{Chain, here, step, ProgramEdge, same_thread, fork_to_event, fork_to_join}
use Rattle.event_core.specs.Order.{event_to_join, HbEdge, program, lock, Po, Hb}
use Rattle.event_core.specs.Wcp.{Meets, Strict, rule_a, rule_b, rule_c_left, rule_c_right}
use Rattle.event_core.proofs.OrderProperties.{hb_trans, acquire_below, below_release}
use Rattle.event_core.proofs.LogProperties.{of_does, of_one, does_op}
use Rattle.trace_laws.specs.Repeats.{is_access}
use Rattle.trace_laws.proofs.MovedLogs.{Moved, lt_to, lt_from, one_index, does_to, does_from, of_to, of_from}
use Rattle.trace_laws.proofs.MovedLogs.{from_of, from_does, kept_acquire, kept_release, acquire_to}
use Rattle.trace_laws.proofs.MovedLogs.{acquire_from, release_to, release_from, in_section_to}
use Rattle.trace_laws.proofs.MovedLogs.{in_section_from, meets_from}

-- edges

module _ {log other : List Event} {Kept : ℕ → Type 0} {to : ℕ → ℕ} (a : Moved log other Kept to) where
  program_to : {i j : ℕ} → Kept i → Kept j → ProgramEdge log i j → ProgramEdge other (to i) (to j)
  program_to ki kj (same_thread u lt x y) = same_thread u (lt_to a ki lt) (of_to a ki x) (of_to a kj y)
  program_to ki kj (fork_to_event u v lt x y) =
      fork_to_event u v (lt_to a ki lt) (does_to a ki x) (of_to a kj y)
  program_to ki kj (fork_to_join u v w lt x y) =
      fork_to_join u v w (lt_to a ki lt) (does_to a ki x) (does_to a kj y)
  program_to ki kj (event_to_join u w lt x y) =
      event_to_join u w (lt_to a ki lt) (of_to a ki x) (does_to a kj y)

  edge_to : {i j : ℕ} → Kept i → Kept j → HbEdge log i j → HbEdge other (to i) (to j)
  edge_to ki kj (program e) = program (program_to ki kj e)
  edge_to ki kj (lock u v l lt x y) = lock u v l (lt_to a ki lt) (release_to a ki x) (acquire_to a kj y)

  earlier : {i j x y : ℕ} → to i ≡ x → to j ≡ y → x < y → i < j
  earlier e f lt = lt_from a (omega (arith, e, f, lt))

  program_from : {i j x y : ℕ} → Kept i → Kept j → to i ≡ x → to j ≡ y → ProgramEdge other x y
      → ProgramEdge log i j
  program_from ki kj e f (same_thread u lt p q) =
      same_thread u (earlier e f lt) (of_from a ki e p) (of_from a kj f q)
  program_from ki kj e f (fork_to_event u v lt p q) =
      fork_to_event u v (earlier e f lt) (does_from a ki e p) (of_from a kj f q)
  program_from ki kj e f (fork_to_join u v w lt p q) =
      fork_to_join u v w (earlier e f lt) (does_from a ki e p) (does_from a kj f q)
  program_from ki kj e f (event_to_join u w lt p q) =
      event_to_join u w (earlier e f lt) (of_from a ki e p) (does_from a kj f q)

  edge_from : {i j x y : ℕ} → Kept i → Kept j → to i ≡ x → to j ≡ y → HbEdge other x y → HbEdge log i j
  edge_from ki kj e f (program p) = program (program_from ki kj e f p)
  edge_from ki kj e f (lock u v l lt p q) =
      lock u v l (earlier e f lt) (release_from a ki e p) (acquire_from a kj f q)

-- the two events of an edge
record Event2 (log : List Event) (i : ℕ) : Type 0 where
  pub thread : ThreadId
  pub op : Op
  pub does : Does log i thread op

of_event : {log : List Event} {i : ℕ} {u : ThreadId} → Of log i u → Event2 log i
of_event o = record {
  thread = o.event.thread;
  op = o.event.op;
  does = record { event = o.event; at = o.at; thread = refl; does = refl };
}

program_ends : {log : List Event} (i j : ℕ) → ProgramEdge log i j → Event2 log i × Event2 log j
program_ends i j (same_thread u lt x y) = (of_event x, of_event y)
program_ends i j (fork_to_event u v lt x y) = (of_event (of_does x), of_event y)
program_ends i j (fork_to_join u v w lt x y) = (of_event (of_does x), of_event (of_does y))
program_ends i j (event_to_join u w lt x y) = (of_event x, of_event (of_does y))

edge_ends : {log : List Event} (i j : ℕ) → HbEdge log i j → Event2 log i × Event2 log j
edge_ends i j (program e) = program_ends i j e
edge_ends i j (lock u v l lt x y) = (of_event (of_does x.does), of_event (of_does y.does))

-- an access is no fork, join, acquire or release
not_access : {log : List Event} {g : ℕ} {u v : ThreadId} {o p : Op} → Does log g u o → is_access o ≡ true
    → Does log g v p → is_access p ≡ true
not_access d t e = subst (λ (q : Op). is_access q ≡ true) (does_op d e) t

-- two edges of program order that meet at an access are one
program_short : {log : List Event} (b g j : ℕ) (u : ThreadId) (o : Op) → Does log g u o → is_access o ≡ true
    → ProgramEdge log b g → ProgramEdge log g j → ProgramEdge log b j
program_short b g j u o d t e (fork_to_event v w lt x y) = absurd (let no = not_access d t x in cc)
program_short b g j u o d t e (fork_to_join v w z lt x y) = absurd (let no = not_access d t x in cc)
program_short b g j u o d t (fork_to_join v w z lt x y) e = absurd (let no = not_access d t y in cc)
program_short b g j u o d t (event_to_join v w lt x y) e = absurd (let no = not_access d t y in cc)
program_short {log = log} b g j u o d t (same_thread v lt x y) (same_thread w lt2 p q) =
    same_thread v (omega (arith, lt, lt2)) x (subst (λ (z : ThreadId). Of log j z) (of_one p y) q)
program_short {log = log} b g j u o d t (same_thread v lt x y) (event_to_join w z lt2 p q) =
    event_to_join w z (omega (arith, lt, lt2)) (subst (λ (z : ThreadId). Of log b z) (of_one y p) x) q
program_short {log = log} b g j u o d t (fork_to_event v z lt x y) (same_thread w lt2 p q) =
    fork_to_event v z (omega (arith, lt, lt2)) x (subst (λ (z : ThreadId). Of log j z) (of_one p y) q)
program_short {log = log} b g j u o d t (fork_to_event v y' lt x y) (event_to_join w z lt2 p q) =
    fork_to_join w y' z (omega (arith, lt, lt2))
    (subst (λ (k : ThreadId). Does log b y' (Fork k)) (of_one y p) x) q

edge_short : {log : List Event} (b g j : ℕ) (u : ThreadId) (o : Op) → Does log g u o → is_access o ≡ true
    → HbEdge log b g → HbEdge log g j → HbEdge log b j
edge_short b g j u o d t e (lock v w l lt x y) = absurd (let no = not_access d t x.does in cc)
edge_short b g j u o d t (lock v w l lt x y) e = absurd (let no = not_access d t y.does in cc)
edge_short b g j u o d t (program e) (program f) = program (program_short b g j u o d t e f)

-- chains

-- what a chain of the edges needs to be moved
record Edges (log other : List Event) (Kept : ℕ → Type 0) (to : ℕ → ℕ) (E F : ℕ → ℕ → Type 0) : Type 0 where
  pub moved : Moved log other Kept to
  pub ends : (i j : ℕ) → E i j → Event2 log i × Event2 log j
  pub source : (x y : ℕ) → F x y → Event2 other x × Event2 other y
  pub forth : (i j : ℕ) → Kept i → Kept j → E i j → F (to i) (to j)
  pub back : (i j : ℕ) → Kept i → Kept j → F (to i) (to j) → E i j
  pub short : (b g j : ℕ) (u : ThreadId) (o : Op) → Does log g u o → is_access o ≡ true → E b g → E g j
      → E b j

-- a chain up to an access that is not kept, less its last edge
record Pending (log : List Event) (Kept : ℕ → Type 0) (to : ℕ → ℕ) (E F : ℕ → ℕ → Type 0) (i j : ℕ)
    : Type 0 where
  pub last : ℕ
  pub kept : Kept last
  pub chain : Chain F (to i) (to last)
  pub edge : E last j
  pub thread : ThreadId
  pub op : Op
  pub does : Does log j thread op
  pub access : is_access op ≡ true

arrives : {log other : List Event} {Kept : ℕ → Type 0} {to : ℕ → ℕ} {E F : ℕ → ℕ → Type 0} {i j : ℕ}
    → Edges log other Kept to E F → Kept i → Chain E i j
    → (Kept j × Chain F (to i) (to j)) ⊎ Pending log Kept to E F i j
arrives s ki here = inl (ki, here)
arrives {log = log} {Kept = Kept} {to = to} {E = E} {F = F} {i = i} {j = j} s ki (step {g = g} c e) =
    elim (arrives s ki c) [
      | inl r ↦ leave g r.0 r.1 e
      | inr p ↦ leave p.last p.kept p.chain (s.short p.last g j
          p.thread p.op p.does p.access p.edge e)
    ]
  where
    leave : (b : ℕ) → Kept b → Chain F (to i) (to b) → E b j
        → (Kept j × Chain F (to i) (to j)) ⊎ Pending log Kept to E F i j
    leave b kb h f =
        let x = (s.ends b j f).1 in
        elim (s.moved.cases j x.thread x.op x.does) [
          | inl kj ↦ inl (kj, step h (s.forth b j kb kj f))
          | inr t ↦ inr (
              record {
                last = b;
                kept = kb;
                chain = h;
                edge = f;
                thread = x.thread;
                op = x.op;
                does = x.does;
                access = t;
              }
              )
        ]

chain_to : {log other : List Event} {Kept : ℕ → Type 0} {to : ℕ → ℕ} {E F : ℕ → ℕ → Type 0} {i j : ℕ}
    → Edges log other Kept to E F → Kept i → Kept j → Chain E i j → Chain F (to i) (to j)
chain_to s ki kj here = here
chain_to {to = to} {F = F} {i = i} {j = j} s ki kj (step {g = g} c e) = elim (arrives s ki c) [
  | inl r ↦ step r.1 (s.forth g j r.0 kj e)
  | inr p ↦
      step p.chain
      (s.forth p.last j p.kept kj (s.short p.last g j p.thread p.op p.does p.access p.edge e))
]

chain_from : {log other : List Event} {Kept : ℕ → Type 0} {to : ℕ → ℕ} {E F : ℕ → ℕ → Type 0} {x y : ℕ}
    → Edges log other Kept to E F → Chain F x y → (i j : ℕ) → Kept i → Kept j → to i ≡ x → to j ≡ y
    → Chain E i j
chain_from {E = E} s here i j ki kj e f =
    subst (λ (k : ℕ). Chain E i k) (one_index s.moved ki kj (e ∙ sym f)) here
chain_from {to = to} {F = F} {y = y} s (step {g = g} c p) i j ki kj e f =
    let o = from_does s.moved ((s.source g y p).0).does in
    step (chain_from s c i o.0 ki o.1 e o.2)
    (s.back o.0 j o.1 kj (subst (λ (k : ℕ). F k (to j)) (sym o.2) (subst (λ (k : ℕ). F g k) (sym f) p)))

module _ {log other : List Event} {Kept : ℕ → Type 0} {to : ℕ → ℕ} (a : Moved log other Kept to) where
  of_program : Edges log other Kept to (ProgramEdge log) (ProgramEdge other)
  of_program = record {
    moved = a;
    ends = program_ends;
    source = program_ends;
    forth = λ i j ki kj e. program_to a ki kj e;
    back = λ i j ki kj e. program_from a ki kj refl refl e;
    short = program_short;
  }

  of_hb : Edges log other Kept to (HbEdge log) (HbEdge other)
  of_hb = record {
    moved = a;
    ends = edge_ends;
    source = edge_ends;
    forth = λ i j ki kj e. edge_to a ki kj e;
    back = λ i j ki kj e. edge_from a ki kj refl refl e;
    short = edge_short;
  }

  -- kept events in program order are so in the other log
  pub po_to : {i j : ℕ} → Kept i → Kept j → Po log i j → Po other (to i) (to j)
  po_to ki kj c = chain_to (of_program) ki kj c

  -- kept events in program order in the other log are so in this one
  pub po_from : {i j : ℕ} → Kept i → Kept j → Po other (to i) (to j) → Po log i j
  po_from {i = i} {j = j} ki kj c = chain_from (of_program) c i j ki kj refl refl

  -- a kept event that happens before another does so in the other log
  pub hb_to : {i j : ℕ} → Kept i → Kept j → Hb log i j → Hb other (to i) (to j)
  hb_to ki kj c = chain_to (of_hb) ki kj c

  -- a kept event that happens before another in the other log does so in this one
  pub hb_back : {i j x y : ℕ} → Kept i → Kept j → to i ≡ x → to j ≡ y → Hb other x y → Hb log i j
  hb_back {i = i} {j = j} ki kj e f c = chain_from (of_hb) c i j ki kj e f

-- the strict relation

-- the premise of rule (a) of the log is one of the other log, of an event no later than the kept one
pub record Premise (log other : List Event) (Kept : ℕ → Type 0) (to : ℕ → ℕ) (r j : ℕ) : Type 0 where
  pub access : ℕ
  pub kept : Kept access
  pub below : Hb log access j
  pub meets : Meets other (to r) (to access)

-- each premise of rule (a) below a kept event has one in the other log
abbrev pub KeepsPremises : List Event → List Event → (ℕ → Type 0) → (ℕ → ℕ) → Type 0
KeepsPremises log other Kept to =
    (r i j : ℕ) → Meets log r i → Kept j → Hb log i j → Premise log other Kept to r j

-- a section's acquire and its release are in it
at_acquire : {log : List Event} {l : LockId} {r i : ℕ} → (s : InSection log l r i)
    → InSection log l r s.acquire
at_acquire s = record {
  thread = s.thread;
  acquire = s.acquire;
  section = s.section;
  of = of_does s.section.inside.opened.does;
  from = omega arith;
  to = s.section.inside.from;
}

at_release : {log : List Event} {l : LockId} {r i : ℕ} → InSection log l r i → InSection log l r r
at_release s = record {
  thread = s.thread;
  acquire = s.acquire;
  section = s.section;
  of = of_does s.section.closed.does;
  from = s.section.inside.from;
  to = omega arith;
}

-- the events of a pair that is strictly ordered
module _ {log other : List Event} {Kept : ℕ → Type 0} {to : ℕ → ℕ} (a : Moved log other Kept to) where
  hb_source : {x y : ℕ} → Hb other x y → ((i : ℕ) × Kept i × (to i ≡ y)) → (i : ℕ) × Kept i × (to i ≡ x)
  hb_source here k = k
  hb_source {y = y} (step {g = g} c e) k = hb_source c (from_does a ((edge_ends g y e).0).does)

  hb_target : {x y : ℕ} → Hb other x y → ((i : ℕ) × Kept i × (to i ≡ x)) → (i : ℕ) × Kept i × (to i ≡ y)
  hb_target here k = k
  hb_target {y = y} (step {g = g} c e) k = from_does a ((edge_ends g y e).1).does

  strict_source : {x y : ℕ} → Strict other x y → (i : ℕ) × Kept i × (to i ≡ x)
  strict_source (rule_a m) = from_does a m.in_section.section.closed.does
  strict_source (rule_b l lt p q d) = from_does a p.section.closed.does
  strict_source (rule_c_left h d) = hb_source h (strict_source d)
  strict_source (rule_c_right d h) = strict_source d

  strict_target : {x y : ℕ} → Strict other x y → (i : ℕ) × Kept i × (to i ≡ y)
  strict_target (rule_a m) = from_of a m.inside.of
  strict_target (rule_b l lt p q d) = from_does a q.section.closed.does
  strict_target (rule_c_left h d) = strict_target d
  strict_target (rule_c_right d h) = hb_target h (strict_target d)

  -- kept events before and after a strict precedence are strictly ordered in the other log
  pub strict_to : {i j : ℕ} → KeepsPremises log other Kept to → Strict log i j → (b f : ℕ) → Kept b → Kept f
      → Hb log b i → Hb log j f → Strict other (to b) (to f)
  strict_to keeps (rule_a {r = r} {j = j} m) b f kb kf h h2 =
      let p = keeps r j f m kf h2 in
      rule_c_left (hb_to a kb (kept_release a m.in_section.section.closed.does) h)
      (rule_c_right (rule_a p.meets) (hb_to a p.kept kf p.below))
  strict_to keeps (rule_b {r = r} {s = s} l lt p q d) b f kb kf h h2 =
      let kr = kept_release a p.section.closed.does in
      let ks = kept_release a q.section.closed.does in
      let kp = kept_acquire a p.section.inside.opened.does in
      let mid = strict_to keeps d p.acquire s kp ks (acquire_below p) (below_release q) in
      rule_c_left (hb_to a kb kr h)
      (rule_c_right
      (rule_b l (lt_to a kr lt) (in_section_to a kp (at_acquire p)) (in_section_to a ks (at_release q)) mid)
      (hb_to a ks kf h2))
  strict_to keeps (rule_c_left g d) b f kb kf h h2 = strict_to keeps d b f kb kf (hb_trans h g) h2
  strict_to keeps (rule_c_right d g) b f kb kf h h2 = strict_to keeps d b f kb kf h (hb_trans g h2)

  -- a kept event that strictly precedes another in the other log does so in this one
  pub strict_from : {x y : ℕ} → Strict other x y → (i j : ℕ) → Kept i → Kept j → to i ≡ x → to j ≡ y
      → Strict log i j
  strict_from (rule_a m) i j ki kj e f = rule_a (meets_from a ki kj e f m)
  strict_from (rule_b l lt p q d) i j ki kj e f =
      let b = from_of a p.of in
      let c = from_of a q.of in
      rule_b l (lt_from a (omega (arith, lt, e, f))) (in_section_from a ki b.1 e b.2 p)
      (in_section_from a kj c.1 f c.2 q) (strict_from d b.0 c.0 b.1 c.1 b.2 c.2)
  strict_from (rule_c_left h d) i j ki kj e f =
      let g = strict_source d in
      rule_c_left (hb_back a ki g.1 e g.2 h) (strict_from d g.0 j g.1 kj g.2 f)
  strict_from (rule_c_right d h) i j ki kj e f =
      let g = strict_target d in
      rule_c_right (strict_from d i g.0 ki g.1 e g.2) (hb_back a g.1 kj g.2 f h)

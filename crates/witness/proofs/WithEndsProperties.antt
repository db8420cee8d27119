-- The events of a witness, followed by its two accesses, are a well-formed log.
use Rattle.std.proofs.Common.{◌≡◌, ℕ, zero, suc, ◌+◌, ◌<◌, ◌≤◌, List, [], ◌∷◌, ◌++◌, Bool, true, false}
use Rattle.std.proofs.Common.{Option, Some, None, slice_get, take, drop, refl, ap, sym, ◌∙◌, subst, arith}
use Rattle.std.proofs.Common.{length, not}
use Rattle.std.proofs.Common.{nat_le, nat_eq, ◌||◌, take-append-drop, length-append}
use Rattle.std.proofs.Math.Seq.{take-length}
use Rattle.std.proofs.lemmas.Bool.{cases_Bool, not-false, or_cases, or_left, or_right, eqb-true}
use Rattle.std.proofs.lemmas.Bool.{le-leb}
use Rattle.std.proofs.lemmas.List.Folds.{list_any-append}
use Rattle.std.specs.List.{list_any}
use mathlib.Core.Logic.{inl, inr}
use Rattle.event_core.specs.declared.ids.ThreadId.{ThreadId}
use Rattle.event_core.specs.declared.ids.SiteId.{SiteId}
use Rattle.event_core.specs.declared.events.Event.{Event}
use Rattle.event_core.specs.declared.events.Call.{Call}
use Rattle.event_core.specs.declared.events.Op.{Op}
use Rattle.event_core.specs.declared.events.Op.TheVariants.{Load, Store, Fork, Join}
use Rattle.event_core.specs.declared.bounds.Limits.{Limits}
use Rattle.event_core.specs.declared.bounds.Roots.{Roots}
use Rattle.event_core.specs.declared.bounds.Roots.TheVariants.{OnlyMain, Free}
use Rattle.event_core.specs.declared.replies.Refusal.TheVariants.{ThreadRange, NotStarted, TargetRange}
use Rattle.event_core.specs.Log.{Does, Of}
use Rattle.event_core.specs.Order.{fork_to_event, event_to_join}
use Rattle.event_core.specs.Closed.{Has, first, later}
use Rattle.event_core.specs.Refusal.{WellFormed, Legal, refusal, forked, forks, joins, op_forks, op_joins}
use Rattle.event_core.specs.Refusal.{in_range, held_depths, op_is_acquire, op_is_release}
use Rattle.event_core.proofs.ConflictProperties.{IsAccess}
use Rattle.event_core.proofs.OrderProperties.{chain_one}
use Rattle.event_core.proofs.DepthProperties.{same_thread_id, count_with}
use Rattle.event_core.proofs.EndedLaw.{ended_rest}
use Rattle.event_core.proofs.WellFormedProperties.{still_forked, well_formed_grown}
use Rattle.event_core.proofs.OpenAcquiresProperties.{balanced}
use Rattle.event_core.proofs.OrderlyProperties.{Reasons, legal_reasons, when_none}
use Rattle.event_core.proofs.HasProperties.{has_front}
use Rattle.witness.specs.Indices.{events_at, with_event}
use Rattle.witness.specs.Witness.{Precedes, IsNext, IsWitness}
use Rattle.witness.specs.EndLaws.{next_event, with_ends}
use Rattle.witness.proofs.Weights.{weigh, weight, weight_at, sum_of, sum_below, position, sum_distinct}
use Rattle.witness.proofs.Weights.{sum_log, sum_events, balance}
use Rattle.witness.proofs.Weights.{distinct_of, Distinct}

-- an access weighs 1, and is neither an acquire nor a release nor a join
record Plain (o : Op) : Type 0 where
  weighs : weight o ≡ 1
  acquires : op_is_acquire o ≡ false
  releases : op_is_release o ≡ false
  joins_none : (u : ThreadId) → op_joins u o ≡ false

plain : (o : Op) → IsAccess o → Plain o
plain (Load x) a = record { weighs = refl; acquires = refl; releases = refl; joins_none = λ u. refl }
plain (Store x) a = record { weighs = refl; acquires = refl; releases = refl; joins_none = λ u. refl }
plain _ a = absurd a

-- an access is legal where its thread has started, is not joined, and there is a slot
allowed : (m : Limits) (log : List Event) (u : ThreadId) (o : Op) (site : SiteId) (arg : ℕ) → IsAccess o
    → nat_le m.threads u.0 ≡ false → not (forked m.roots log u) ≡ false → list_any (joins u) log ≡ false
    → not (in_range m o) ≡ false → not (nat_le (length log + held_depths m log + 1) m.events) ≡ false
    → (let c : Call = record { thread = u; op = o; site = site; arg = arg } in refusal m log c ≡ None)
unfolding refusal
allowed m log u (Load x) site arg a p q r s t = rw (p, q, r, s, t) refl
allowed m log u (Store x) site arg a p q r s t = rw (p, q, r, s, t) refl
allowed m log u _ site arg a p q r s t = absurd a

-- what of an event's legality does not depend on the log
record Stays (m : Limits) (log : List Event) (e : Event) : Type 0 where
  thread : nat_le m.threads e.thread.0 ≡ false
  range : not (in_range m e.op) ≡ false
  started : not (forked m.roots log e.thread) ≡ false
  running : list_any (joins e.thread) log ≡ false

legal_access : (m : Limits) (log : List Event) (e : Event) → IsAccess e.op → Stays m log e
    → length log + held_depths m log + 1 ≤ m.events → Legal m log (next_event log e)
legal_access m log e a s room = record {
  call = record { thread = e.thread; op = e.op; site = e.site; arg = e.value };
  allowed = allowed m log e.thread e.op e.site e.value a s.thread s.started s.running s.range
      (ap not (le-leb (length log + held_depths m log + 1) m.events room));
  is = refl;
}

untake : (xs : List Event) (k i : ℕ) (e : Event) → slice_get (take k xs) i ≡ Some e
    → (i < k) × (slice_get xs i ≡ Some e)
untake xs zero i e at = absurd (cc)
untake [] (suc k) i e at = absurd (cc)
untake (x ∷ xs) (suc k) zero e at = (omega arith, at)
untake (x ∷ xs) (suc k) (suc i) e at = let r = untake xs k i e at in (omega (arith, r.0), r.1)

any_index : (p : Event → Bool) (xs : List Event) → list_any p xs ≡ true
    → (n : ℕ) × (e : Event) × (slice_get xs n ≡ Some e) × (p e ≡ true)
any_index p [] h = absurd (cc)
any_index p (x ∷ xs) h =
    let ih = any_index p xs in
    elim (or_cases (p x) (list_any p xs) h) [
      | inl t ↦ (0, x, refl, t)
      | inr t ↦ (let r = ih t in (suc r.0, r.1, r.2, r.3))
    ]

-- the events of a list
any_in : (p : Event → Bool) (log : List Event) (k : ℕ) (e : Event) → slice_get log k ≡ Some e → p e ≡ true
    → (s : List ℕ) → Has k s → list_any p (events_at log s) ≡ true
unfolding events_at
any_in p log k e at t _ (first b bs is) =
    let there : slice_get log b ≡ Some e = ap (slice_get log) (sym is) ∙ at in
    ap (λ (o : Option Event). list_any p (with_event o (events_at log bs))) there ∙ or_left _ _ t
any_in p log k e at t _ (later b bs h) = out (slice_get log b) (any_in p log k e at t bs h)
  where
    out : (o : Option Event) → list_any p (events_at log bs) ≡ true
        → list_any p (with_event o (events_at log bs)) ≡ true
    out None r = r
    out (Some f) r = or_right (p f) _ r

-- an index of the list at which the test passes
record Passing (p : Event → Bool) (log : List Event) (s : List ℕ) : Type 0 where
  place : ℕ
  index : ℕ
  event : Event
  at : slice_get s place ≡ Some index
  is : slice_get log index ≡ Some event
  passes : p event ≡ true

later_one : (p : Event → Bool) (log : List Event) (k : ℕ) (ks : List ℕ) → Passing p log ks
    → Passing p log (k ∷ ks)
later_one p log k ks r = record {
  place = suc r.place;
  index = r.index;
  event = r.event;
  at = r.at;
  is = r.is;
  passes = r.passes;
}

first_or_later : (p : Event → Bool) (log : List Event) (k : ℕ) (ks : List ℕ) (o : Option Event)
    → slice_get log k ≡ o → list_any p (with_event o (events_at log ks)) ≡ true
    → (list_any p (events_at log ks) ≡ true → Passing p log ks) → Passing p log (k ∷ ks)
first_or_later p log k ks None is t more = later_one p log k ks (more t)
first_or_later p log k ks (Some e) is t more = elim (or_cases (p e) (list_any p (events_at log ks)) t) [
  | inl here ↦ record { place = 0; index = k; event = e; at = refl; is = is; passes = here }
  | inr r ↦ later_one p log k ks (more r)
]

any_at : (p : Event → Bool) (log : List Event) (s : List ℕ) → list_any p (events_at log s) ≡ true
    → Passing p log s
unfolding events_at
any_at p log [] h = absurd (cc)
any_at p log (k ∷ ks) h = first_or_later p log k ks (slice_get log k) refl h (λ t. any_at p log ks t)

op_forks_is : (u : ThreadId) (o : Op) → op_forks u o ≡ true → o ≡ Fork u
op_forks_is u (Fork v) t = ap Fork (same_thread_id (eqb-true v.0 u.0 t))
op_forks_is u _ t = cc

op_joins_is : (u : ThreadId) (o : Op) → op_joins u o ≡ true → o ≡ Join u
op_joins_is u (Join v) t = ap Join (same_thread_id (eqb-true v.0 u.0 t))
op_joins_is u _ t = cc

-- an access that is next after s is as legal after s as in the log
stays : (m : Limits) (log : List Event) (s : List ℕ) (i : ℕ) (e : Event) → WellFormed m log
    → slice_get log i ≡ Some e → IsNext log s i
    → ((n k : ℕ) → slice_get s n ≡ Some k → IsNext log (take n s) k) → Stays m (events_at log s) e
stays m log s i e formed at next order = record {
  thread = when_none _ ThreadRange reasons.thread_on_table;
  range = when_none _ TargetRange reasons.on_table;
  started = ap not (started m.roots (not-false _ (when_none _ NotStarted reasons.may_act)));
  running = elim (cases_Bool (list_any (joins e.thread) (events_at log s))) [
    | inl t ↦ absurd (joined t)
    | inr f ↦ f
  ];
}
  where
    reasons : Reasons m (take i log) e.thread e.op
    reasons = legal_reasons m (take i log) e (formed.legal i e at)

    mine : Of log i e.thread
    mine = record { event = e; at = at; thread = refl }

    started : (roots : Roots) → forked roots (take i log) e.thread ≡ true
        → forked roots (events_at log s) e.thread ≡ true
    started Free h = refl
    started OnlyMain h = elim (or_cases (nat_eq e.thread.0 0) (list_any (forks e.thread) (take i log)) h) [
      | inl t ↦ or_left _ _ t
      | inr t ↦
          let r = any_index (forks e.thread) (take i log) t in
          let w = untake log i r.0 r.1 r.2 in
          let d : Does log r.0 r.1.thread (Fork e.thread)
          = record { event = r.1; at = w.1; thread = refl; does = op_forks_is e.thread r.1.op r.3 } in
          let before : Precedes log r.0 i = record {
            ordered = chain_one (fork_to_event e.thread r.1.thread w.0 d mine);
            other = λ q. (let lt = w.0 in omega arith);
          } in
          or_right (nat_eq e.thread.0 0) _
          (any_in (forks e.thread) log r.0 r.1 w.1 r.3 s (next.preceded r.0 before))
    ]

    joined : list_any (joins e.thread) (events_at log s) ≡ true → ⊥
    joined t =
        let r = any_at (joins e.thread) log s t in
        let d : Does log r.index r.event.thread (Join e.thread) = record {
          event = r.event;
          at = r.is;
          thread = refl;
          does = op_joins_is e.thread r.event.op r.passes;
        } in
        let lt = ended_rest m log e.thread r.event.thread r.index i formed d mine in
        let before : Precedes log i r.index = record {
          ordered = chain_one (event_to_join e.thread r.event.thread lt mine d);
          other = λ q. omega arith;
        } in
        let has = (order r.place r.index r.at).preceded i before in
        next.other
        (subst (Has i) (take-append-drop r.place s) (has_front i (take r.place s) (drop r.place s) has))

not_either : {i j : ℕ} {s : List ℕ} → (i ≡ j → ⊥) → (Has i s → ⊥) → Has i (j ∷ s) → ⊥
not_either ne none (first b bs e) = ne e
not_either ne none (later b bs h) = none h

each_within : {n b : ℕ} {bs : List ℕ} → b < n → ((k : ℕ) → Has k bs → k < n) → (k : ℕ) → Has k (b ∷ bs)
    → k < n
each_within {n = n} lt more k (first b bs e) = subst (λ (x : ℕ). x < n) (sym e) lt
each_within lt more k (later b bs h) = more k h

-- the events of s and the two accesses are different events of the log, so there are two slots
room : (m : Limits) (log : List Event) (i j : ℕ) (s : List ℕ) (e f : Event) → WellFormed m log
    → slice_get log i ≡ Some e → slice_get log j ≡ Some f → IsAccess e.op → IsAccess f.op → (i ≡ j → ⊥)
    → IsWitness m log i j s
    → length (events_at log s) + held_depths m (events_at log s) + 2 ≤ m.events
room m log i j s e f formed at_i at_j a b ne w =
    let g : ℕ → ℕ = λ k. weight_at (slice_get log k) in
    let within : (k : ℕ) → Has k (i ∷ j ∷ s) → k < length log
    = each_within w.first.within (each_within w.second.within
    (λ k h. (let p = position k s h in (w.program_order p.0 k p.1).within))) in
    let apart : Distinct (i ∷ j ∷ s)
    = (
      not_either ne w.first.other,
      (w.second.other, distinct_of s (λ n k at. (w.program_order n k at).other)),
    ) in
    let sum : sum_of g (i ∷ j ∷ s) ≤ sum_below g (length log)
    = sum_distinct g (length log) (i ∷ j ∷ s) apart within in
    let parts : sum_of g (i ∷ j ∷ s)
    ≡ weight_at (slice_get log i) + (weight_at (slice_get log j) + sum_of g s)
    = refl in
    let all : sum_below g (length log) ≡ weigh log
    = sum_log log (length log) (omega arith) ∙ ap weigh (take-length log) in
    let here : sum_of g s ≡ weigh (events_at log s) = sum_events log s in
    let w_i : weight_at (slice_get log i) ≡ 1 = ap weight_at at_i ∙ (plain e.op a).weighs in
    let w_j : weight_at (slice_get log j) ≡ 1 = ap weight_at at_j ∙ (plain f.op b).weighs in
    let balance_here = balance (events_at log s) in
    let balance_all = balance log in
    let depths_here = balanced m (events_at log s) w.legal in
    let depths_all = balanced m log formed in
    omega (arith, depths_here.counts, depths_all.counts, depths_all.room)

neither : (b c : Bool) → b ≡ false → c ≡ false → (b || (c || false)) ≡ false
neither b c p q = rw (p, q) refl

-- the events of a witness, followed by its two accesses, are a well-formed log
pub ends_formed : (m : Limits) (log : List Event) (i j : ℕ) (s : List ℕ) (e f : Event) → WellFormed m log
    → slice_get log i ≡ Some e → slice_get log j ≡ Some f → IsAccess e.op → IsAccess f.op → (i ≡ j → ⊥)
    → IsWitness m log i j s → WellFormed m (with_ends (events_at log s) e f)
ends_formed m log i j s e f formed at_i at_j a b ne w =
    well_formed_grown m one (next_event one f) one_formed (legal_access m one f b after last)
  where
    before : List Event
    before = events_at log s

    new : Event
    new = next_event before e

    one : List Event
    one = before ++ new ∷ []

    slots : length before + held_depths m before + 2 ≤ m.events
    slots = room m log i j s e f formed at_i at_j a b ne w

    one_formed : WellFormed m one
    one_formed =
        well_formed_grown m before new w.legal
        (legal_access m before e a (stays m log s i e formed at_i w.first w.program_order)
        (let n = slots in omega arith))

    after : Stays m one f
    after = let t = stays m log s j f formed at_j w.second w.program_order in record {
      thread = t.thread;
      range = t.range;
      started = ap not (still_forked m.roots before (new ∷ []) f.thread (not-false _ t.started));
      running =
          list_any-append (joins f.thread) before (new ∷ [])
          ∙ neither (list_any (joins f.thread) before) (op_joins f.thread e.op) t.running
          ((plain e.op a).joins_none f.thread);
    }

    last : length one + held_depths m one + 1 ≤ m.events
    last =
        let n = slots in
        let long : length one ≡ length before + 1 = length-append before (new ∷ []) in
        let x = balanced m one one_formed in
        let y = balanced m before w.legal in
        let p = count_with (λ (z : Event). op_is_acquire z.op) before new false (plain e.op a).acquires in
        let q = count_with (λ (z : Event). op_is_release z.op) before new false (plain e.op a).releases in
        omega (arith, x.counts, y.counts)

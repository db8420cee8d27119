-- What is next after the events that are counted, and the count of one more.
use Rattle.std.proofs.Common.{◌≡◌, ℕ, ◌+◌, ◌<◌, ◌≤◌, ◌⊎◌, List, [], ◌∷◌, ◌++◌, Some, slice_get, take, refl}
use Rattle.std.proofs.Common.{ap}
use Rattle.std.proofs.Common.{subst, ◌∙◌, sym, arith}
use Rattle.std.proofs.lemmas.Bool.{cases_lt, eq-eqb, ne_eqb}
use Rattle.std.proofs.lemmas.Option.{slice_get_within}
use mathlib.Core.Logic.{inl, inr}
use Rattle.event_core.specs.declared.ids.ThreadId.{ThreadId}
use Rattle.event_core.specs.declared.events.Event.{Event}
use Rattle.event_core.specs.declared.events.Op.TheVariants.{Join}
use Rattle.event_core.specs.Log.{Does, Of}
use Rattle.event_core.specs.Order.{here, step, ProgramEdge, same_thread, fork_to_event, fork_to_join}
use Rattle.event_core.specs.Order.{event_to_join, Po}
use Rattle.event_core.specs.Count.{events_of, Counts}
use Rattle.event_core.specs.Rows.{bump}
use Rattle.event_core.specs.Closed.{Has}
use Rattle.event_core.proofs.CountsProperties.{rank_below}
use Rattle.event_core.proofs.DepthProperties.{thread_cases, same_thread_id}
use Rattle.event_core.proofs.LogProperties.{of_one, does_op}
use Rattle.event_core.proofs.HasProperties.{has_front, has_last, has_split, none_in}
use Rattle.witness.specs.Walks.{IsCount, HasFork, HasAll, IsNextOf}
use Rattle.witness.proofs.Ranks.{rank_before, rank_once}

-- before any event all counts are 0
pub nothing_counted : (log : List Event) (counts : ℕ → ℕ) → ((n : ℕ) → counts n ≡ 0) → IsCount log [] counts
nothing_counted log counts zeros = record {
  counted = λ u. record {
    within = (let z = zeros u.0 in omega arith);
    first = λ i o. (λ h. absurd (none_in h), λ lt. absurd (let z = zeros u.0 in omega arith));
  };
  closed = λ h k e has. absurd (none_in has);
}

-- where the count of a thread is its number of events, it has made each of them
pub all_counted : {log : List Event} {before : List ℕ} {counts : ℕ → ℕ} (u : ThreadId)
    → IsCount log before counts → events_of log u ≤ counts u.0 → HasAll log before u
all_counted {log = log} u c le h o =
    ((c.counted u).first h o).1 (let r = rank_below log u h o in omega arith)

-- what precedes one of these is among them
chain_closed : {log : List Event} {before : List ℕ} {counts : ℕ → ℕ} {h g : ℕ} → IsCount log before counts
    → Po log h g → Has g before → Has h before
chain_closed c here has = has
chain_closed c (step {g = g} {j = j} p e) has = chain_closed c p (c.closed g j e has)

-- an event is next if its thread has made its earlier events, is forked, and has what it joins
pub next_of : {log : List Event} {before : List ℕ} {counts : ℕ → ℕ} (k : ℕ) (e : Event)
    → slice_get log k ≡ Some e
    → IsCount log before counts → counts e.thread.0 ≡ events_of (take k log) e.thread
    → HasFork log before e.thread
    → ((u : ThreadId) → e.op ≡ Join u → HasAll log before u × HasFork log before u)
    → IsNextOf log before counts k
next_of {log = log} {before = before} {counts = counts} k e at count place fork join = record {
  next = record {
    within = slice_get_within log k e at;
    other = λ has. (let lt = ((count.counted e.thread).first k mine).0 has in omega arith);
    preceded = λ h p. preceded p.ordered p.other;
  };
  edges = edge;
  place = λ u o. subst (λ (v : ThreadId). counts v.0 ≡ events_of (take k log) v) (of_one mine o) place;
}
  where
    mine : Of log k e.thread
    mine = record { event = e; at = at; thread = refl }

    does : Does log k e.thread e.op
    does = record { event = e; at = at; thread = refl; does = refl }

    edge : (h : ℕ) → ProgramEdge log h k → Has h before
    edge h (same_thread u lt a b) =
        let is : counts u.0 ≡ events_of (take k log) u
        = subst (λ (v : ThreadId). counts v.0 ≡ events_of (take k log) v) (of_one mine b) place in
        let r = rank_before log u h k lt a in
        ((count.counted u).first h a).1 (omega arith)
    edge h (fork_to_event u v lt a b) =
        subst (λ (w : ThreadId). HasFork log before w) (of_one mine b) fork h v a
    edge h (fork_to_join u v w lt a b) = (join u (does_op does b)).1 h v a
    edge h (event_to_join u w lt a b) = (join u (does_op does b)).0 h a

    preceded : {h : ℕ} → Po log h k → (h ≡ k → ⊥) → Has h before
    preceded here ne = absurd (ne refl)
    preceded (step {g = g} p last) ne = chain_closed count p (edge g last)

-- the counts after one event more
pub count_more : {log : List Event} {before : List ℕ} {counts more : ℕ → ℕ} (k : ℕ) (u : ThreadId)
    → Of log k u → IsCount log before counts → IsNextOf log before counts k
    → ((n : ℕ) → more n ≡ bump u.0 counts n) → IsCount log (before ++ k ∷ []) more
count_more {log = log} {before = before} {counts = counts} {more = more} k u mine count next are = record {
  counted = λ w. counted w (thread_cases w u);
  closed = λ h g e has. elim (has_split g before k has) [
    | inl old ↦ has_front h before _ (count.closed h g e old)
    | inr is ↦ has_front h before _ (next.edges h (subst (λ (n : ℕ). ProgramEdge log h n) is e))
  ];
}
  where
    after : List ℕ
    after = before ++ k ∷ []

    place : counts u.0 ≡ events_of (take k log) u
    place = next.place u mine

    own : more u.0 ≡ counts u.0 + 1
    own = are u.0 ∙ rw (eq-eqb u.0 u.0 refl) refl

    counted : (w : ThreadId) → (w ≡ u) ⊎ (w ≡ u → ⊥) → Counts log w (λ i. Has i after) (more w.0)
    counted w (inl same) =
        subst (λ (v : ThreadId). Counts log v (λ i. Has i after) (more v.0)) (sym same) (record {
          within = (let r = rank_below log u k mine in let p = place in let q = own in omega arith);
          first = λ i o. (to i o, from i o);
        })
      where
        to : (i : ℕ) → Of log i u → Has i after → events_of (take i log) u < more u.0
        to i o has = elim (has_split i before k has) [
          | inl old ↦ (let lt = ((count.counted u).first i o).0 old in let q = own in omega arith)
          | inr is ↦ (
              let s = ap (λ (n : ℕ). events_of (take n log) u) is in
              let p = place in let q = own in omega arith)
        ]

        from : (i : ℕ) → Of log i u → events_of (take i log) u < more u.0 → Has i after
        from i o lt = elim (cases_lt (events_of (take i log) u) (counts u.0)) [
          | inl less ↦ has_front i before _ (((count.counted u).first i o).1 less)
          | inr ge ↦
              let p = place in let q = own in
              let same : events_of (take i log) u ≡ events_of (take k log) u = omega arith in
              subst (λ (n : ℕ). Has n after) (sym (rank_once log u i k o mine same)) (has_last before k)
        ]
    counted w (inr other) =
        let old = count.counted w in
        let is : more w.0 ≡ counts w.0
        = are w.0 ∙ rw (ne_eqb w.0 u.0 (λ q. other (same_thread_id q))) refl in
        record {
          within = (let a = old.within in omega arith);
          first = λ i o. (
            λ has. elim (has_split i before k has) [
              | inl h ↦ (let lt = (old.first i o).0 h in omega arith)
              | inr same ↦ absurd (other (of_one (subst (λ (n : ℕ). Of log n w) same o) mine))
            ],
            λ lt. has_front i before _ ((old.first i o).1 (omega arith)),
          );
        }

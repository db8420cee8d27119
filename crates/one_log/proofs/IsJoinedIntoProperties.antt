-- What was joined into a pass has all its steps in what the pass has seen, and makes no more.
use Rattle.std.proofs.Common.{◌≡◌, ℕ, zero, suc, ◌+◌, ◌<◌, List, [], ◌∷◌, ◌++◌, true, false, length, refl}
use Rattle.std.proofs.Common.{sym, ap, ◌∙◌, subst, Some, slice_get, arith, nat_eq}
use Rattle.std.specs.List.{list_any}
use Rattle.std.proofs.lemmas.Bool.{cases_Bool, eqb-true, or_cases, cond-false}
use Rattle.std.proofs.lemmas.List.{append-nil}
use Rattle.std.proofs.lemmas.List.Elements.{filter-append}
use Rattle.std.proofs.lemmas.Option.{slice_get_within}
use mathlib.Core.Logic.{inl, inr}
use mathlib.Core.List.{IsPrefix}
use Rattle.event_core.specs.declared.ids.ThreadId.{ThreadId}
use Rattle.event_core.specs.declared.events.Event.{Event}
use Rattle.event_core.specs.declared.events.Op.{Op}
use Rattle.event_core.specs.declared.events.Op.TheVariants.{Join}
use Rattle.event_core.specs.declared.bounds.Limits.{Limits}
use Rattle.event_core.specs.declared.steps.Step.{Step}
use Rattle.event_core.specs.declared.steps.Step.TheVariants.{One, Swap}
use Rattle.event_core.specs.Log.{Does, Of}
use Rattle.event_core.specs.Refusal.{joins, op_joins, WellFormed}
use Rattle.event_core.specs.Steps.{log_of, own, own_events, Formed, AreSteps}
use Rattle.event_core.proofs.DepthProperties.{same_thread_id}
use Rattle.event_core.proofs.EndedLaw.{ended_rest}
use Rattle.event_core.proofs.Places.{get_before}
use Rattle.event_core.proofs.StepsProperties.{log_of-append, own-append, own_logs}
use Rattle.log_pass.specs.declared.views.PassView.{PassView}
use Rattle.log_pass.proofs.Prefixes.{prefix_self, prefix_trans}
use Rattle.live_monitor.specs.Rules.{HasOwn}
use Rattle.live_monitor.proofs.LogOfProperties.{log_begins}
use Rattle.one_log.specs.Joined.{IsJoinOf, IsJoinedInto, directly, earlier, through}
use Rattle.one_log.specs.OneLog.{StandsIn, StandsAmong}

-- what the pass that joined the child had seen just then begins these steps
record Joined (child : PassView) (steps : List Step) : Type 0 where
  pub then : List Step
  pub child_begins : IsPrefix child.seen then
  pub child_own : child.mine ≡ own child.thread then
  pub child_events : HasOwn child (log_of then)
  pub joined : list_any (joins child.thread) (log_of then) ≡ true
  pub begins : IsPrefix then steps

by_join : {child pass : PassView} → IsJoinOf child pass → Joined child pass.seen
by_join {pass = pass} j = record {
  then = pass.seen;
  child_begins = j.child_begins;
  child_own = j.child_own;
  child_events = j.child_events;
  joined = j.joined;
  begins = prefix_self pass.seen;
}

longer : {child : PassView} (xs ys : List Step) → Joined child xs → IsPrefix xs ys → Joined child ys
longer xs ys j p = record {
  then = j.then;
  child_begins = j.child_begins;
  child_own = j.child_own;
  child_events = j.child_events;
  joined = j.joined;
  begins = prefix_trans j.then xs ys j.begins p;
}

joined_then : {child pass : PassView} → IsJoinedInto child pass → Joined child pass.seen
joined_then (directly j) = by_join j
joined_then (earlier {pass = pass} {later = later} i p) = longer pass.seen later.seen (joined_then i) p
joined_then (through {other = other} {pass = pass} i j) =
    longer other.seen pass.seen (joined_then i) j.child_begins

-- the place of the join
record JoinAt (u : ThreadId) (xs : List Event) : Type 0 where
  pub index : ℕ
  pub event : Event
  pub at : slice_get xs index ≡ Some event
  pub joins : joins u event ≡ true

join_at : (u : ThreadId) (xs : List Event) → list_any (joins u) xs ≡ true → JoinAt u xs
join_at u [] t = absurd (cc)
join_at u (x ∷ xs) t = elim (or_cases (joins u x) (list_any (joins u) xs) t) [
  | inl h ↦ record { index = 0; event = x; at = refl; joins = h }
  | inr h ↦
      let r = join_at u xs h in record { index = suc r.index; event = r.event; at = r.at; joins = r.joins }
]

joins_is : (u : ThreadId) (o : Op) → op_joins u o ≡ true → o ≡ Join u
joins_is u (Join v) t = ap Join (same_thread_id (eqb-true v.0 u.0 t))
joins_is u _ t = absurd (cc)

-- an event after these is one of the whole list
after_at : (xs ys : List Event) (k n : ℕ) → n ≡ length xs + k → slice_get (xs ++ ys) n ≡ slice_get ys k
after_at [] ys k n e = ap (slice_get ys) (omega (arith, e))
after_at (x ∷ xs) ys k zero e = absurd (omega (arith, e))
after_at (x ∷ xs) ys k (suc n) e = after_at xs ys k n (omega (arith, e))

none_own : (u : ThreadId) (es : List Event)
    → ((k : ℕ) (e : Event) → slice_get es k ≡ Some e → nat_eq e.thread.0 u.0 ≡ false) → own_events u es ≡ []
none_own u [] h = refl
none_own u (e ∷ es) h =
    cond-false (nat_eq e.thread.0 u.0) (e ∷ own_events u es) (own_events u es) (h 0 e refl)
    ∙ none_own u es (λ k f at. h (suc k) f at)

-- a thread that has been joined has no event after
rests : (m : Limits) (u : ThreadId) (xs ys : List Event) → WellFormed m (xs ++ ys)
    → list_any (joins u) xs ≡ true → own_events u ys ≡ []
rests m u xs ys w t = none_own u ys other
  where
    other : (k : ℕ) (e : Event) → slice_get ys k ≡ Some e → nat_eq e.thread.0 u.0 ≡ false
    other k e at = elim (cases_Bool (nat_eq e.thread.0 u.0)) [
      | inr f ↦ f
      | inl same ↦
          let j = join_at u xs t in
          let does : Does (xs ++ ys) j.index j.event.thread (Join u) = record {
            event = j.event;
            at = get_before xs ys j.index j.event j.at;
            thread = refl;
            does = joins_is u j.event.op j.joins;
          } in
          let of : Of (xs ++ ys) (length xs + k) u = record {
            event = e;
            at = after_at xs ys k (length xs + k) refl ∙ at;
            thread = same_thread_id (eqb-true e.thread.0 u.0 same);
          } in
          let lt : length xs + k < j.index
          = ended_rest m (xs ++ ys) u j.event.thread j.index (length xs + k) w does of in
          let within : j.index < length xs = slice_get_within xs j.index j.event j.at in
          absurd (omega (arith, lt, within))
    ]

own_after : (u : ThreadId) (xs ys : List Event) → own_events u ys ≡ []
    → own_events u (xs ++ ys) ≡ own_events u xs
own_after u xs ys none =
    filter-append (λ (e : Event). nat_eq e.thread.0 u.0) xs ys
    ∙ ap (λ zs. own_events u xs ++ zs) none ∙ append-nil (own_events u xs)

-- what was joined into a pass stands in each well-formed log that begins with what the pass has seen
pub stands_in : (m : Limits) (log : List Event) (child pass : PassView) → WellFormed m log
    → IsPrefix (log_of pass.seen) log → IsJoinedInto child pass → StandsIn log child
stands_in m log child pass w p i =
    let j = joined_then i in
    let seen = log_begins j.then pass.seen j.begins in
    let q = prefix_trans (log_of j.then) (log_of pass.seen) log seen p in
    let w' : WellFormed m (log_of j.then ++ q.0) = subst (WellFormed m) (sym q.1) w in
    let none = rests m child.thread (log_of j.then) q.0 w' j.joined in
    record {
      begins = prefix_trans (log_of child.seen) (log_of j.then) log
          (log_begins child.seen j.then j.child_begins) q;
      own = j.child_events ∙ sym (own_after child.thread (log_of j.then) q.0 none)
          ∙ ap (own_events child.thread) q.1;
    }

no_steps : (ds : List Step) → log_of ds ≡ [] → ds ≡ []
no_steps [] none = refl
no_steps (One e ∷ ds) none = absurd (cc)
no_steps (Swap l s ∷ ds) none = absurd (cc)

are_steps_back : (xs ys : List Step) → AreSteps (xs ++ ys) → AreSteps ys
are_steps_back [] ys a = a
are_steps_back (x ∷ xs) ys a = are_steps_back xs ys a.1

-- and among the steps
pub stands_among : (m : Limits) (steps : List Step) (child pass : PassView) → Formed m steps
    → IsPrefix pass.seen steps → IsJoinedInto child pass → StandsAmong steps child
stands_among m steps child pass f p i =
    let j = joined_then i in
    let q = prefix_trans j.then pass.seen steps j.begins p in
    let parts : Formed m (j.then ++ q.0) = subst (Formed m) (sym q.1) f in
    let w : WellFormed m (log_of j.then ++ log_of q.0)
    = subst (WellFormed m) (log_of-append j.then q.0) parts.well_formed in
    let none : log_of (own child.thread q.0) ≡ []
    = own_logs child.thread q.0 (are_steps_back j.then q.0 parts.are_steps)
    ∙ rests m child.thread (log_of j.then) (log_of q.0) w j.joined in
    let quiet : own child.thread q.0 ≡ [] = no_steps (own child.thread q.0) none in
    record {
      begins = prefix_trans child.seen j.then steps j.child_begins q;
      own = j.child_own ∙ sym (append-nil (own child.thread j.then))
          ∙ ap (λ zs. own child.thread j.then ++ zs) (sym quiet)
          ∙ sym (own-append child.thread j.then q.0) ∙ ap (own child.thread) q.1;
      in_log = stands_in m (log_of steps) child pass f.well_formed (log_begins pass.seen steps p) i;
    }

-- The numbers of the sections on a lock.
use Rattle.std.proofs.Common.{◌≡◌, ℕ, suc, ◌<◌, ◌≤◌, ◌+◌, ◌-◌, List, [], ◌∷◌, ◌++◌, true, length}
use Rattle.std.proofs.Common.{refl, sym, ap, subst, ◌∙◌, arith, take, drop, cond, Some, slice_get}
use Rattle.std.proofs.Common.{append_assoc, take-append-drop, add-zero}
use Rattle.std.proofs.lemmas.Bool.{cases_lt, eqb-true, eq-eqb, and_parts, and_from, false_from_ne_true}
use Rattle.std.proofs.lemmas.Option.{slice_get_within}
use Rattle.std.proofs.lemmas.List.{take-append-le, append-nil, take-take}
use Rattle.std.proofs.Math.Seq.{take-append_seam, take-length}
use mathlib.Core.Logic.{inl, inr}
use Rattle.event_core.proofs.Words.{ThreadId, LockId, Event}
use Rattle.event_core.specs.Log.{depth, op_releases, OuterRelease}
use Rattle.event_core.specs.Closed.{ends, ended_after, ended, number_of}
use Rattle.event_core.specs.LogLaws.{SectionsAreNumbered}
use Rattle.event_core.proofs.DepthProperties.{event_at, take_event, op_releases_is}
use Rattle.event_core.proofs.CountedProperties.{nat_eq_same}
use Rattle.event_core.proofs.EffectProperties.{whole}
use Rattle.event_core.proofs.Places.{get_last}
use Rattle.event_core.proofs.LatestIndex.{Crossing, crossing, one_up}

-- what is ended by the events of two lists, one after the other
ended-append : (past : List Event) (l : LockId) (es fs : List Event)
    → ended_after past l (es ++ fs) ≡ ended_after past l es + ended_after (past ++ es) l fs
ended-append past l [] fs =
    let same : ended_after (past ++ []) l fs ≡ ended_after past l fs
    = ap (λ xs. ended_after xs l fs) (append-nil past) in
    omega arith
ended-append past l (x ∷ es) fs =
    let rest = ended-append (past ++ x ∷ []) l es fs in
    let same : ended_after ((past ++ x ∷ []) ++ es) l fs ≡ ended_after (past ++ (x ∷ es)) l fs
    = ap (λ xs. ended_after xs l fs) (append_assoc past (x ∷ []) es) in
    omega arith

-- an event ends one section more, or none
pub ended_snoc : (log : List Event) (l : LockId) (e : Event)
    → ended (log ++ e ∷ []) l ≡ ended log l + cond (ends log l e) 1 0
unfolding ended
ended_snoc log l e = let h = ended-append [] l log (e ∷ []) in omega arith

-- the test of an event is that of an outer release
pub ends_is : (log : List Event) (l : LockId) (r : ℕ) (u : ThreadId) (o : OuterRelease log r u l)
    → ends (take r log) l o.does.event ≡ true
ends_is log l r u o =
    and_from _ _ (subst (λ p. op_releases l p ≡ true) (sym o.does.does) (nat_eq_same l.0))
    (eq-eqb _ 0
    (subst (λ xs. depth xs o.does.event.thread l ≡ 0) (take_event log r o.does.event o.does.at)
    (subst (λ v. depth (take (suc r) log) v l ≡ 0) (sym o.does.thread) o.outer)))

pub is_ends : (log : List Event) (l : LockId) (r : ℕ) (e : Event) → slice_get log r ≡ Some e
    → ends (take r log) l e ≡ true → OuterRelease log r e.thread l
is_ends log l r e at h =
    let both = and_parts _ _ h in
    record {
      does = record { event = e; at = at; thread = refl; does = op_releases_is l e.op both.0 };
      outer =
          subst (λ xs. depth xs e.thread l ≡ 0) (sym (take_event log r e at)) (eqb-true _ 0 both.1);
    }

-- what an event of the log ends
ended_next : (log : List Event) (l : LockId) (i : ℕ) (e : Event) → slice_get log i ≡ Some e
    → ended (take (suc i) log) l ≡ ended (take i log) l + cond (ends (take i log) l e) 1 0
ended_next log l i e at = ap (λ xs. ended xs l) (take_event log i e at) ∙ ended_snoc (take i log) l e

-- an outer release ends one section more
pub ended_up : (log : List Event) (l : LockId) (r : ℕ) (u : ThreadId) → OuterRelease log r u l
    → ended (take (suc r) log) l ≡ number_of log l r
ended_up log l r u o =
    ended_next log l r o.does.event o.does.at
    ∙ ap (λ b. ended (take r log) l + cond b 1 0) (ends_is log l r u o)

-- a longer log ends no fewer
pub ended_mono : (log : List Event) (l : LockId) (r s : ℕ) → r ≤ s
    → ended (take r log) l ≤ ended (take s log) l
unfolding ended
ended_mono log l r s le =
    let parts = ended-append [] l (take r (take s log)) (drop r (take s log)) in
    let first : ended_after [] l (take r (take s log)) ≡ ended_after [] l (take r log)
    = ap (ended_after [] l) (take-take r s log le) in
    let whole : ended_after [] l (take r (take s log) ++ drop r (take s log)) ≡ ended_after [] l (take s log)
    = ap (ended_after [] l) (take-append-drop r (take s log)) in
    omega arith

-- so numbers rise with the releases
pub number_rises : (log : List Event) (l : LockId) (r s : ℕ) (u : ThreadId) → OuterRelease log r u l → r < s
    → number_of log l r < number_of log l s
number_rises log l r s u o lt =
    let one = ended_up log l r u o in
    let more = ended_mono log l (suc r) s (omega arith) in
    omega (arith, one, more)

-- of two releases the one with the smaller number comes first
pub number_order : (log : List Event) (l : LockId) (r s : ℕ) (v : ThreadId) → OuterRelease log s v l
    → number_of log l r ≤ number_of log l s → r ≤ s
number_order log l r s v o le = elim (cases_lt s r) [
  | inr h ↦ h
  | inl h ↦ absurd (let up = number_rises log l s r v o h in omega (arith, le, up))
]

-- releases of a lock with one number are one
pub number_same : (log : List Event) (l : LockId) (r s : ℕ) (u v : ThreadId) → OuterRelease log r u l
    → OuterRelease log s v l → number_of log l r ≡ number_of log l s → r ≡ s
number_same log l r s u v o p e =
    let a = number_order log l r s v p (omega (arith, e)) in
    let b = number_order log l s r u o (omega (arith, e)) in
    omega (arith, a, b)

-- no number is greater than that of all sections that have ended
pub number_within : (log : List Event) (l : LockId) (r : ℕ) (u : ThreadId) → OuterRelease log r u l
    → number_of log l r ≤ ended log l
number_within log l r u o =
    let lt : r < length log = slice_get_within log r o.does.event o.does.at in
    let one = ended_up log l r u o in
    let more = ended_mono log l (suc r) (length log) (omega arith) in
    let all : ended (take (length log) log) l ≡ ended log l = ap (λ xs. ended xs l) (take-length log) in
    omega (arith, one, more, all)

-- before the first event no section has ended
pub ended_none : (log : List Event) (l : LockId) → ended (take 0 log) l ≡ 0
unfolding ended
ended_none log l = refl

-- each number up to that is one's
pub at_number : (log : List Event) (l : LockId) (k n : ℕ) → n ≤ length log → k < ended (take n log) l
    → (r : ℕ) × (u : ThreadId) × OuterRelease log r u l × (number_of log l r ≡ k + 1)
at_number log l k n le h =
    (p.index, x.0.thread, is_ends log l p.index x.0 x.1 is.0, ap (λ n. n + 1) is.1)
  where
    p : Crossing (λ i. ended (take i log) l) k n
    p = crossing (λ i. ended (take i log) l) k n (let none = ended_none log l in omega arith) h

    x : (e : Event) × (slice_get log p.index ≡ Some e)
    x = event_at log p.index (let b : p.index < n = p.below in omega arith)

    is : (ends (take p.index log) l x.0 ≡ true) × (ended (take p.index log) l ≡ k)
    is =
        one_up _ k (ends (take p.index log) l x.0) p.low
        (subst (λ n. k < n) (ended_next log l p.index x.0 x.1) (p.high (suc p.index) (omega arith) p.below))

-- in a longer log each section has the same number
pub number_longer : (log : List Event) (e : Event) (l : LockId) (r : ℕ) → r ≤ length log
    → number_of (log ++ e ∷ []) l r ≡ number_of log l r
number_longer log e l r le = ap (λ xs. ended xs l + 1) (take-append-le r log (e ∷ []) le)

-- and a section that the last event ends has the next one
pub number_last : (log : List Event) (e : Event) (l : LockId)
    → number_of (log ++ e ∷ []) l (length log) ≡ ended log l + 1
number_last log e l = ap (λ xs. ended xs l + 1) (take-append_seam log (e ∷ []))

-- the law: the sections on a lock have the numbers from 1, in the order of their releases
pub sections_are_numbered : SectionsAreNumbered
sections_are_numbered log l = record {
  rising = number_rises log l;
  within = number_within log l;
  each = λ n some le.
      let all : ended (take (length log) log) l ≡ ended log l = ap (λ xs. ended xs l) (take-length log) in
      let x = at_number log l (n - 1) (length log) (omega arith) (omega arith) in
      (x.0, x.1, x.2, x.3 ∙ omega arith);
}

-- an event that ends no section on the lock leaves as many, and one that does makes one more
pub ended_same : (log : List Event) (e : Event) (l : LockId)
    → (OuterRelease (log ++ e ∷ []) (length log) e.thread l → ⊥) → ended (log ++ e ∷ []) l ≡ ended log l
ended_same log e l none =
    ended_snoc log l e ∙ ap (λ b. ended log l + cond b 1 0) (false_from_ne_true (ends log l e) (λ t.
    none (is_ends (log ++ e ∷ []) l (length log) e (get_last log e)
    (subst (λ xs. ends xs l e ≡ true) (sym (take-append_seam log (e ∷ []))) t))))
    ∙ add-zero (ended log l)

-- an outer release ends one section more
pub ended_one : (log : List Event) (e : Event) (l : LockId)
    → OuterRelease (log ++ e ∷ []) (length log) e.thread l → ended (log ++ e ∷ []) l ≡ ended log l + 1
ended_one log e l o =
    sym (ap (λ xs. ended xs l) (whole log e)) ∙ ended_up (log ++ e ∷ []) l (length log) e.thread o
    ∙ number_last log e l

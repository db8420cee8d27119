-- A release by a lock's holder is refused exactly where the holder has been joined.
use Rattle.std.proofs.Common.{◌≡◌, ℕ, ◌<◌, List, [], ◌∷◌, Bool, true, false, Some, None, not}
use Rattle.std.proofs.Common.{refl, sym, ap, subst, ◌∙◌, arith, take, length}
use Rattle.std.proofs.lemmas.Bool.{eq-eqb, ltb-true, not-false}
use Rattle.std.proofs.lemmas.List.{take-append-drop}
use Rattle.std.proofs.Math.ListN.{drop}
use Rattle.std.proofs.Math.Seq.{take-length}
use Rattle.std.specs.List.{list_any}
use Rattle.event_core.proofs.Words.{ThreadId, LockId, Event, Call, Acquire, Release, Limits, ThreadRange}
use Rattle.event_core.proofs.Words.{NotStarted, Ended, TargetRange, NotHolder}
use Rattle.event_core.specs.Log.{depth}
use Rattle.event_core.specs.Refusal.{refusal, first_of, when, holder, is_holder, joins, forked, WellFormed}
use Rattle.event_core.proofs.DepthProperties.{Opener, opener}
use Rattle.event_core.proofs.OrderlyProperties.{Reasons, reasons_at, when_none, holder_depth}
use Rattle.event_core.proofs.WellFormedProperties.{still_forked}

-- the acquire since which the holder holds the lock
holder_opener : (log : List Event) (l : LockId) (u : ThreadId) → holder log l ≡ Some u
    → Opener log u l (length log)
holder_opener log l u h =
    opener log u l (length log) (omega arith)
    (subst (λ xs. 0 < depth xs u l) (sym (take-length log)) (holder_depth log l u h))

-- a lock that is held is within the limit
pub lock_within : (m : Limits) (log : List Event) (u : ThreadId) (l : LockId) → WellFormed m log
    → 0 < depth log u l → l.0 < m.locks
lock_within m log u l w up =
    let o = opener log u l (length log) (omega arith)
    (subst (λ xs. 0 < depth xs u l) (sym (take-length log)) up) in
    let r = reasons_at m log o.index u (Acquire l) w o.opened.does in
    ltb-true l.0 m.locks (not-false _ (when_none _ TargetRange r.on_table))

-- who had started at an event has started at the log's end
started_since : (m : Limits) (log : List Event) (i : ℕ) (u : ThreadId) → forked m.roots (take i log) u ≡ true
    → forked m.roots log u ≡ true
started_since m log i u h =
    subst (λ xs. forked m.roots xs u ≡ true) (take-append-drop i log)
    (still_forked m.roots (take i log) (drop i log) u h)

-- the holder passes the test of the holder
is_the_holder : (log : List Event) (l : LockId) (u : ThreadId) → holder log l ≡ Some u
    → is_holder (holder log l) u ≡ true
is_the_holder log l u h = ap (λ o. is_holder o u) h ∙ eq-eqb u.0 u.0 refl

-- of the reasons to refuse a release, all but one are excluded
only_ended : (a b c d e : Bool) → a ≡ false → b ≡ false → d ≡ false → e ≡ false
    → first_of (when a ThreadRange ∷ when b NotStarted ∷ when c Ended ∷ when d TargetRange ∷ None
    ∷ when e NotHolder ∷ None ∷ None ∷ None ∷ None ∷ []) ≡ when c Ended
only_ended a b true d e p q r s = rw (p, q) refl
only_ended a b false d e p q r s = rw (p, q, r, s) refl

-- a release by the holder, after the acquire that opened its section
release_by_holder : (m : Limits) (log : List Event) (c : Call) (l : LockId) → WellFormed m log
    → holder log l ≡ Some c.thread
    → refusal m log (record { thread = c.thread; op = Release l; site = c.site; arg = c.arg })
    ≡ when (list_any (joins c.thread) log) Ended
unfolding refusal
release_by_holder m log c l w h =
    let o : Opener log c.thread l (length log) = holder_opener log l c.thread h in
    let r : Reasons m (take o.index log) c.thread (Acquire l)
    = reasons_at m log o.index c.thread (Acquire l) w o.opened.does in
    let started : forked m.roots log c.thread ≡ true
    = started_since m log o.index c.thread (not-false _ (when_none _ NotStarted r.may_act)) in
    only_ended _ _ (list_any (joins c.thread) log) _ _ (when_none _ ThreadRange r.thread_on_table)
    (ap not started) (when_none _ TargetRange r.on_table) (ap not (is_the_holder log l c.thread h))

-- a release by the holder is refused where the holder has been joined, and for no other reason
pub holder_refusal : (m : Limits) (log : List Event) (c : Call) (l : LockId) → WellFormed m log
    → c.op ≡ Release l → holder log l ≡ Some c.thread
    → refusal m log c ≡ when (list_any (joins c.thread) log) Ended
holder_refusal m log c l w is h =
    subst (λ o. refusal m log (record { thread = c.thread; op = o; site = c.site; arg = c.arg })
    ≡ when (list_any (joins c.thread) log) Ended) (sym is) (release_by_holder m log c l w h)

-- When a swap is refused, and that its two events are legal, one after the other.
use Rattle.std.proofs.Common.{◌≡◌, ℕ, ◌<◌, ◌≤◌, ◌+◌, List, [], ◌∷◌, ◌++◌, Bool, true, false, length, refl}
use Rattle.std.proofs.Common.{sym, ap, ◌∙◌, arith, ◌⊎◌, nat_le, not, ◌||◌, Option, Some, None, length-append}
use Rattle.std.proofs.lemmas.Bool.{leb-true, leb-false, le-leb, lt-leb, not-true, not-false}
use Rattle.std.proofs.lemmas.List.Folds.{list_any-append}
use Rattle.std.specs.List.{list_any}
use mathlib.Core.Logic.{inl, inr}
use Rattle.event_core.proofs.Words.{ThreadId, VarId, SiteId, Event, Call, Load, Store, Limits, Refusal}
use Rattle.event_core.proofs.Words.{ThreadRange, NotStarted, Ended, TargetRange, LogFull}
use Rattle.event_core.specs.Refusal.{refusal, first_of, when, forked, joins, in_range, held_depths}
use Rattle.event_core.specs.Refusal.{open_acquires, op_is_acquire, op_is_release, Legal, WellFormed}
use Rattle.event_core.specs.Steps.{MayFollow}
use Rattle.event_core.specs.Acts.{swap_refusal, swap_load, swap_store, load_call}
use Rattle.event_core.proofs.DepthProperties.{count_with}
use Rattle.event_core.proofs.OpenAcquiresProperties.{depths_are_open}
use Rattle.event_core.proofs.WellFormedProperties.{well_formed_grown, still_forked}

-- the reasons to refuse an access, by their tests
abbrev chain : Bool → Bool → Bool → Bool → Bool → Option Refusal
chain a b c d e =
    first_of (when a ThreadRange ∷ when b NotStarted ∷ when c Ended ∷ when d TargetRange ∷ when e
    LogFull ∷ [])

none_parts : (a b c d e : Bool) → chain a b c d e ≡ None
    → (a ≡ false) × (b ≡ false) × (c ≡ false) × (d ≡ false) × (e ≡ false)
none_parts false false false false false h = (refl, refl, refl, refl, refl)
none_parts _ _ _ _ _ h = absurd cc

none_again : (a b c d e f : Bool) → chain a b c d e ≡ None → f ≡ false → chain a b c d f ≡ None
none_again a b c d e f h g =
    let p = none_parts a b c d e h in
    let q : chain false false false false false ≡ None = refl in
    rw (p.0, p.1, p.2, p.3, g) q

same_reason : (a b c d e f : Bool) (r : Refusal) → (r ≡ LogFull → ⊥) → chain a b c d e ≡ Some r
    → chain a b c d f ≡ Some r
same_reason false false false false true f r n h = absurd (n (let q : Some LogFull ≡ Some r = h in cc))
same_reason false false false false false f r n h = absurd cc
same_reason _ _ _ _ e f r n h = h

full_parts : (a b c d e f : Bool) → chain a b c d e ≡ Some LogFull
    → (e ≡ true) × ((chain a b c d f ≡ None) ⊎ (chain a b c d f ≡ Some LogFull))
full_parts false false false false true true h = (refl, inr refl)
full_parts false false false false true false h = (refl, inl refl)
full_parts _ _ _ _ _ f h = absurd cc

full_from : (a b c d e f : Bool) → (chain a b c d f ≡ None) ⊎ (chain a b c d f ≡ Some LogFull) → e ≡ true
    → chain a b c d e ≡ Some LogFull
full_from false false false false true f s t = refl
full_from false false false false false f s t = absurd cc
full_from _ _ _ _ e f (inl h) t = absurd cc
full_from _ _ _ _ e f (inr h) t = absurd cc

-- the test that there are so many slots beside those that are kept
abbrev lacks : Limits → List Event → ℕ → Bool
lacks m log n = not (nat_le (length log + held_depths m log + n) m.events)

access_chain : Limits → List Event → ThreadId → VarId → ℕ → Option Refusal
access_chain m log u x n =
    chain (nat_le m.threads u.0) (not (forked m.roots log u)) (list_any (joins u) log)
    (not (in_range m (Load x)))
    (lacks m log n)

-- a refusal of a swap, other than a full log, is that of its load
pub swap_as_load : (m : Limits) (log : List Event) (u : ThreadId) (x : VarId) (site : SiteId) (r : Refusal)
    → (r ≡ LogFull → ⊥) → swap_refusal m log u x ≡ Some r → refusal m log (load_call u x site) ≡ Some r
unfolding access_chain refusal swap_refusal
swap_as_load m log u x site r n h =
    let c : access_chain m log u x 2 ≡ Some r = h in same_reason _ _ _ _ _ (lacks m log 1) r n c

-- a refusal of the load, other than a full log, is the swap's refusal
pub load_as_swap : (m : Limits) (log : List Event) (u : ThreadId) (x : VarId) (site : SiteId) (r : Refusal)
    → (r ≡ LogFull → ⊥) → refusal m log (load_call u x site) ≡ Some r → swap_refusal m log u x ≡ Some r
unfolding access_chain refusal swap_refusal
load_as_swap m log u x site r n h =
    let c : access_chain m log u x 1 ≡ Some r = h in same_reason _ _ _ _ _ (lacks m log 2) r n c

-- where a swap is not refused, its load is not, and two slots are left
pub swap_allowed : (m : Limits) (log : List Event) (u : ThreadId) (x : VarId) (site : SiteId)
    → swap_refusal m log u x ≡ None
    → (refusal m log (load_call u x site) ≡ None) × (length log + held_depths m log + 2 ≤ m.events)
unfolding access_chain refusal swap_refusal
swap_allowed m log u x site h =
    let c : access_chain m log u x 2 ≡ None = h in
    let p = none_parts _ _ _ _ _ c in
    let room : length log + held_depths m log + 2 ≤ m.events = leb-true _ _ (not-false _ p.4) in
    let one : lacks m log 1 ≡ false
    = ap not (le-leb (length log + held_depths m log + 1) m.events (omega arith)) in
    (none_again _ _ _ _ _ (lacks m log 1) c one, room)

-- where the load is not refused and two slots are left, the swap is not refused
pub swap_if_room : (m : Limits) (log : List Event) (u : ThreadId) (x : VarId) (site : SiteId)
    → refusal m log (load_call u x site) ≡ None → length log + held_depths m log + 2 ≤ m.events
    → swap_refusal m log u x ≡ None
unfolding access_chain refusal swap_refusal
swap_if_room m log u x site h room =
    let c : access_chain m log u x 1 ≡ None = h in
    none_again _ _ _ _ _ (lacks m log 2) c (ap not (le-leb _ _ room))

-- where the log is full for a swap, no other reason applies to its load, and two slots are not left
pub swap_full : (m : Limits) (log : List Event) (u : ThreadId) (x : VarId) (site : SiteId)
    → swap_refusal m log u x ≡ Some LogFull
    → ((refusal m log (load_call u x site) ≡ None) ⊎ (refusal m log (load_call u x site) ≡ Some LogFull))
    × (m.events < length log + held_depths m log + 2)
unfolding access_chain refusal swap_refusal
swap_full m log u x site h =
    let c : access_chain m log u x 2 ≡ Some LogFull = h in
    let p = full_parts _ _ _ _ _ (lacks m log 1) c in
    (p.1, leb-false _ _ (not-true _ p.0))

-- where no other reason applies to the load and two slots are not left, the log is full for the swap
pub swap_full_from : (m : Limits) (log : List Event) (u : ThreadId) (x : VarId) (site : SiteId)
    → (refusal m log (load_call u x site) ≡ None) ⊎ (refusal m log (load_call u x site) ≡ Some LogFull)
    → m.events < length log + held_depths m log + 2 → swap_refusal m log u x ≡ Some LogFull
unfolding access_chain refusal swap_refusal
swap_full_from m log u x site s short =
    let c : (access_chain m log u x 1 ≡ None) ⊎ (access_chain m log u x 1 ≡ Some LogFull) = s in
    let full : access_chain m log u x 2 ≡ Some LogFull
    = full_from _ _ _ _ _ (lacks m log 1) c (ap not (lt-leb _ _ short)) in
    full

-- a load opens and closes nothing
load_opens : (log : List Event) (u : ThreadId) (x : VarId) (site : SiteId)
    → open_acquires (log ++ swap_load log u x site ∷ []) ≡ open_acquires log
unfolding open_acquires
load_opens log u x site =
    let a = count_with (λ (y : Event). op_is_acquire y.op) log (swap_load log u x site) false refl in
    let b = count_with (λ (y : Event). op_is_release y.op) log (swap_load log u x site) false refl in
    omega arith

load_depths : (m : Limits) (log : List Event) (u : ThreadId) (x : VarId) (site : SiteId) → WellFormed m log
    → WellFormed m (log ++ swap_load log u x site ∷ [])
    → held_depths m (log ++ swap_load log u x site ∷ []) ≡ held_depths m log
load_depths m log u x site w w' =
    depths_are_open m (log ++ swap_load log u x site ∷ []) w' ∙ load_opens log u x site
    ∙ sym (depths_are_open m log w)

-- the two events of an accepted swap are legal, one after the other
pub swap_legal : (m : Limits) (log : List Event) (u : ThreadId) (x : VarId) (site : SiteId) (arg : ℕ)
    → WellFormed m log → swap_refusal m log u x ≡ None
    → MayFollow m log (swap_load log u x site ∷ swap_store u x site arg ∷ [])
unfolding access_chain refusal
swap_legal m log u x site arg w h = (first, (second, tt))
  where
    p : (refusal m log (load_call u x site) ≡ None) × (length log + held_depths m log + 2 ≤ m.events)
    p = swap_allowed m log u x site h

    first : Legal m log (swap_load log u x site)
    first = record { call = load_call u x site; allowed = p.0; is = refl }

    new : List Event
    new = log ++ swap_load log u x site ∷ []

    store_call : Call
    store_call = record { thread = u; op = Store x; site = site; arg = arg }

    second : Legal m new (swap_store u x site arg)
    second = record { call = store_call; allowed = allowed; is = refl }
      where
        c : access_chain m log u x 1 ≡ None
        c = p.0

        parts : (nat_le m.threads u.0 ≡ false) × (not (forked m.roots log u) ≡ false)
            × (list_any (joins u) log ≡ false) × (not (in_range m (Load x)) ≡ false) × (lacks m log 1 ≡ false)
        parts = none_parts _ _ _ _ _ c

        started : not (forked m.roots new u) ≡ false
        started =
            ap not (still_forked m.roots log (swap_load log u x site ∷ []) u (not-false _ parts.1))

        not_joined : list_any (joins u) new ≡ false
        not_joined =
            list_any-append (joins u) log (swap_load log u x site ∷ [])
            ∙ ap (λ (b : Bool). b || false) parts.2

        room : lacks m new 1 ≡ false
        room =
            let w' = well_formed_grown m log (swap_load log u x site) w first in
            let same : held_depths m new ≡ held_depths m log = load_depths m log u x site w w' in
            let long : length new ≡ length log + 1 = length-append log (swap_load log u x site ∷ []) in
            let fits : length log + held_depths m log + 2 ≤ m.events = p.1 in
            ap not (le-leb (length new + held_depths m new + 1) m.events (omega arith))

        allowed : refusal m new store_call ≡ None
        allowed = all parts.0 started not_joined parts.3 room
          where
            all : {a b c d e : Bool} → a ≡ false → b ≡ false → c ≡ false → d ≡ false → e ≡ false
                → chain a b c d e ≡ None
            all a b c d e = rw (a, b, c, d, e) refl

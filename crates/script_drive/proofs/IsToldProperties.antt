-- Only an acquire is refused since another thread holds the lock.
use Rattle.std.proofs.Common.{◌≡◌, ◌+◌, Bool, true, false, not, List, [], ◌∷◌, length, refl, subst}
use Rattle.std.specs.Prelude.{IfSome, Option, Some, None, nat_le}
use Rattle.std.specs.List.{list_any}
use Rattle.std.specs.Option.{option_or}
use Rattle.std.proofs.lemmas.Bool.{cases_Bool}
use mathlib.Core.Logic.{inl, inr}
use Rattle.event_core.specs.declared.ids.ThreadId.{ThreadId}
use Rattle.event_core.specs.declared.ids.VarId.{VarId}
use Rattle.event_core.specs.declared.bounds.Limits.{Limits}
use Rattle.event_core.specs.declared.events.Act.{Act}
use Rattle.event_core.specs.declared.events.Act.TheVariants.{One, Swap}
use Rattle.event_core.specs.declared.events.Call.{Call}
use Rattle.event_core.specs.declared.events.Event.{Event}
use Rattle.event_core.specs.declared.events.Op.{Op}
use Rattle.event_core.specs.declared.events.Op.TheVariants.{Load, Store, Acquire, Release, Fork, Join}
use Rattle.event_core.specs.declared.replies.Refusal.{Refusal}
use Rattle.event_core.specs.declared.replies.Refusal.TheVariants.{ThreadRange, NotStarted, Ended, TargetRange}
use Rattle.event_core.specs.declared.replies.Refusal.TheVariants.{NotHolder, SelfTarget, AlreadyStarted}
use Rattle.event_core.specs.declared.replies.Refusal.TheVariants.{TargetNotStarted, LogFull}
use Rattle.event_core.specs.Acts.{swap_refusal, act_refusal}
use Rattle.event_core.specs.Refusal.{already_started, first_of, held, log_full, not_holder, op_is_acquire}
use Rattle.event_core.specs.Refusal.{forked, held_depths, in_range, joins, reasons, refusal, self_target}
use Rattle.event_core.specs.Refusal.{target_not_started, when}
use Rattle.script_drive.specs.Faults.{act_acquires, is_told}

-- each of these reasons is reported, where it applies
data AreTold : List (Option Refusal) → Type 0 where
  none : AreTold []
  never : {reasons : List (Option Refusal)} → AreTold reasons → AreTold (None ∷ reasons)
  told : (b : Bool) (why : Refusal) {reasons : List (Option Refusal)} → is_told why ≡ true → AreTold reasons
      → AreTold (when b why ∷ reasons)

abbrev IsTold : Option Refusal → Type 0
IsTold reason = IfSome reason (λ why. is_told why ≡ true)

or_told : (b : Bool) (why : Refusal) (later : Option Refusal) → is_told why ≡ true → IsTold later
    → IsTold (option_or (when b why) later)
or_told true why later is others = is
or_told false why later is others = others

first_told : {reasons : List (Option Refusal)} → AreTold reasons → IsTold (first_of reasons)
first_told none = tt
first_told (never others) = first_told others
first_told (told b why {reasons = later} is others) =
    or_told b why (first_of later) is (first_told others)

-- the reasons that depend on the operation
op_told : (m : Limits) (log : List Event) (t : ThreadId) (op : Op) → op_is_acquire op ≡ false
    → AreTold (held log t op ∷ not_holder log t op ∷ self_target t op ∷ already_started m log op
    ∷ target_not_started m log op ∷ log_full m log op ∷ [])
op_told m log t (Load x) other = never (never (never (never (never (told _ LogFull refl none)))))
op_told m log t (Store x) other = never (never (never (never (never (told _ LogFull refl none)))))
op_told m log t (Acquire l) other = absurd (cc other)
op_told m log t (Release l) other = never (told _ NotHolder refl (never (never (never (never none)))))
op_told m log t (Fork u) other =
    never (never (told _ SelfTarget refl (told _ AlreadyStarted refl (never (told _ LogFull refl none)))))
op_told m log t (Join u) other =
    never (never (told _ SelfTarget refl (never (told _ TargetNotStarted refl (told _ LogFull refl none)))))

other_told : (m : Limits) (log : List Event) (c : Call) (why : Refusal) → op_is_acquire c.op ≡ false
    → refusal m log c ≡ Some why → is_told why ≡ true
unfolding refusal
other_told m log c why other refused =
    let all : AreTold (reasons m log c)
    = told _ ThreadRange refl (told _ NotStarted refl (told _ Ended refl (told _ TargetRange refl
    (op_told m log c.thread c.op other)))) in
    subst IsTold refused (first_told all)

swap_told : (m : Limits) (log : List Event) (t : ThreadId) (x : VarId) (why : Refusal)
    → swap_refusal m log t x ≡ Some why → is_told why ≡ true
unfolding swap_refusal
swap_told m log t x why refused =
    let all : AreTold (
    when (nat_le m.threads t.0) ThreadRange
    ∷ when (not (forked m.roots log t)) NotStarted
    ∷ when (list_any (joins t) log) Ended
    ∷ when (not (in_range m (Load x))) TargetRange
    ∷ when (not (nat_le (length log + held_depths m log + 2) m.events)) LogFull
    ∷ []
    )
    = told _ ThreadRange refl (told _ NotStarted refl (told _ Ended refl (told _ TargetRange refl
    (told _ LogFull refl none)))) in
    subst IsTold refused (first_told all)

-- an act's refusal, where an acquire's is reported
pub act_told : (m : Limits) (log : List Event) (a : Act) (why : Refusal)
    → (act_acquires a ≡ true → is_told why ≡ true) → act_refusal m log a ≡ Some why → is_told why ≡ true
act_told m log (Swap t x site arg) why acquire refused = swap_told m log t x why refused
act_told m log (One c) why acquire refused =
    elim (cases_Bool (op_is_acquire c.op)) as (λ _. is_told why ≡ true) [
      | inl is ↦ acquire is
      | inr other ↦ other_told m log c why other refused
    ]

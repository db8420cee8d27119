-- A slot of the log is kept for the release of each open acquire.
use Rattle.std.proofs.Common.{ℕ, ◌≤◌, ◌+◌, List, length, arith, take, count_by}
use Rattle.std.proofs.Math.Seq.{length-take-le}
use Rattle.event_core.proofs.Words.{Event, Limits}
use Rattle.event_core.specs.Refusal.{open_acquires, op_is_acquire, op_is_release, WellFormed}
use Rattle.event_core.proofs.WellFormedProperties.{formed_take}
use Rattle.event_core.proofs.OpenAcquiresProperties.{balanced, depths_are_open}

-- the log is never so full that an open acquire could not be released
pub slots : (m : Limits) (log : List Event) → WellFormed m log → (k : ℕ) → k ≤ length log
    → k + open_acquires (take k log) ≤ m.events
slots m log w k le =
    let w' = formed_take m log k w in
    let b = balanced m (take k log) w' in
    let same = depths_are_open m (take k log) w' in
    let long = length-take-le k log le in
    omega arith

-- no more releases than acquires in all
pub no_more_releases : (m : Limits) (log : List Event) → WellFormed m log
    → count_by (λ (e : Event). op_is_release e.op) log ≤ count_by (λ (e : Event). op_is_acquire e.op) log
no_more_releases m log w = let b = balanced m log w in omega arith

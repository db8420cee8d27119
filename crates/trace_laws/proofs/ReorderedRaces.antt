-- The races of a log and of another that has its events in another order are the same.
use Rattle.std.proofs.Common.{◌≡◌, ℕ, ◌<◌, List, sym, subst, arith}
use Rattle.std.proofs.Common.{◌↔◌}
use Rattle.std.proofs.lemmas.Bool.{cases_order}
use mathlib.Core.Logic.{inl, inr}
use Rattle.event_core.specs.declared.events.Event.{Event}
use Rattle.event_core.specs.Log.{Does}
use Rattle.event_core.specs.Log.{Conflict}
use Rattle.event_core.specs.Orderly.{Orderly}
use Rattle.event_core.specs.Verdict.{Races}
use Rattle.event_core.proofs.OrderProperties.{hb_forward}
use Rattle.event_core.proofs.LogProperties.{does_thread}
use Rattle.trace_laws.specs.Exchanges.{RaceWith}
use Rattle.event_core.proofs.StrictIsWithinHb.{below_hb}
use Rattle.trace_laws.proofs.ReorderedLogs.{Reorders, turned}
use Rattle.trace_laws.proofs.ReorderedRelations.{found, hb_to, conflict_to, below_from, below_le}
use Rattle.event_core.proofs.ConflictProperties.{flipped}

same_conflict : {log : List Event} (i j : ℕ) → i ≡ j → Conflict log i j → ⊥
same_conflict {log = log} i j e c =
    c.threads (does_thread c.does_first
    (subst (λ n. Does log n c.other c.second) (sym e) c.does_second))

-- a race is a race of the other log
pub race_to : {log other : List Event} {to from : ℕ → ℕ} (i j : ℕ) → Reorders log other to from
    → Orderly log → Orderly other → Races log i j → RaceWith other (to i) (to j)
race_to {to = to} i j r w w' race = elim (cases_order (to i) (to j)) [
  | inl e ↦ absurd (same_conflict (to i) (to j) e (conflict_to r race.conflict))
  | inr o ↦ elim o [
    | inl up ↦ inl (
        record {
          before = up;
          conflict = conflict_to r race.conflict;
          unordered = λ b. race.unordered (below_from i j r w w' b);
        }
        )
    | inr down ↦ inr (
        record {
          before = down;
          conflict = flipped (conflict_to r race.conflict);
          unordered = λ b. (
              let le = below_le (below_from j i r w w' b) in
              let lt : i < j = race.before in
              omega (arith, le, lt));
        }
        )
  ]
]

race_with_to : {log other : List Event} {to from : ℕ → ℕ} (i j : ℕ) → Reorders log other to from
    → Orderly log → Orderly other → RaceWith log i j → RaceWith other (to i) (to j)
race_with_to i j r w w' (inl race) = race_to i j r w w' race
race_with_to i j r w w' (inr race) =
    elim (race_to j i r w w' race) [ inl h ↦ inr h | inr h ↦ inl h ]

-- two events race in both logs or in neither
pub same_races : {log other : List Event} {to from : ℕ → ℕ} (i j : ℕ) → Reorders log other to from
    → Orderly log → Orderly other → RaceWith log i j ↔ RaceWith other (to i) (to j)
same_races {log = log} i j r w w' = (
  (λ h. race_with_to i j r w w' h),
  (λ h. found (RaceWith log) i j r (race_with_to _ _ (turned r) w' w h)),
)

-- conflicting accesses that have changed their order race
pub changed_race : {log other : List Event} {to from : ℕ → ℕ} (i j : ℕ) → Reorders log other to from
    → Orderly log → Conflict log i j → i < j → to j < to i → Races log i j
changed_race i j r w c lt down = record {
  before = lt;
  conflict = c;
  unordered = λ b. (let up = hb_forward (hb_to r (below_hb w b)) in omega (arith, up, down));
}

-- so those that do not race have kept it
pub order_kept : {log other : List Event} {to from : ℕ → ℕ} (i j : ℕ) → Reorders log other to from
    → Orderly log → Conflict log i j → i < j → (Races log i j → ⊥) → to i < to j
order_kept {to = to} i j r w c lt never = elim (cases_order (to i) (to j)) [
  | inl e ↦ absurd (same_conflict (to i) (to j) e (conflict_to r c))
  | inr o ↦ elim o [ inl up ↦ up | inr down ↦ absurd (never (changed_race i j r w c lt down)) ]
]

-- The races and the verdicts of the events that both logs have are the same, where no other event races.
use Rattle.std.proofs.Common.{◌≡◌, ℕ, List, refl, sym, subst, arith, ◌↔◌}
use mathlib.Core.Logic.{inl, inr}
use Rattle.event_core.specs.declared.events.Event.{Event}
use Rattle.event_core.specs.declared.replies.Verdict.TheVariants.{Clear, Racy}
use Rattle.event_core.specs.Log.{Conflict}
use Rattle.event_core.specs.Order.{Po, Hb, here}
use Rattle.event_core.specs.Wcp.{Strict, Below}
use Rattle.event_core.specs.Verdict.{Races, IsVerdict}
use Rattle.trace_laws.proofs.MovedLogs.{Moved, lt_to, lt_from, from_does, conflict_to, conflict_from}
use Rattle.trace_laws.proofs.MovedRelations.{KeepsPremises, po_to, po_from, hb_to, hb_back, strict_to}
use Rattle.trace_laws.proofs.MovedRelations.{strict_from}

-- the premises of rule (a) are kept
pub record Same (log other : List Event) (Kept : ℕ → Type 0) (to : ℕ → ℕ) : Type 0 where
  pub moved : Moved log other Kept to
  pub premises : KeepsPremises log other Kept to

-- and all that conflict
abbrev pub KeepsConflicts : List Event → (ℕ → Type 0) → Type 0
KeepsConflicts log Kept = (i j : ℕ) → Conflict log i j → Kept i × Kept j

module _ {log other : List Event} {Kept : ℕ → Type 0} {to : ℕ → ℕ} (s : Same log other Kept to) where
  -- program order between kept events is the same in both logs
  pub same_po : (i j : ℕ) → Kept i → Kept j → Po log i j ↔ Po other (to i) (to j)
  same_po i j ki kj = (po_to s.moved ki kj, po_from s.moved ki kj)

  -- happens-before between kept events is the same in both logs
  pub same_hb : (i j : ℕ) → Kept i → Kept j → Hb log i j ↔ Hb other (to i) (to j)
  same_hb i j ki kj = (hb_to s.moved ki kj, hb_back s.moved ki kj refl refl)

  -- strict precedence between kept events is the same in both logs
  pub same_strict : (i j : ℕ) → Kept i → Kept j → Strict log i j ↔ Strict other (to i) (to j)
  same_strict i j ki kj = (
    λ d. strict_to s.moved s.premises d i j ki kj here here,
    λ d. strict_from s.moved d i j ki kj refl refl,
  )

  below_to : (i j : ℕ) → Kept i → Kept j → Below log i j → Below other (to i) (to j)
  below_to i j ki kj (inl d) = inl ((same_strict i j ki kj).0 d)
  below_to i j ki kj (inr p) = inr ((same_po i j ki kj).0 p)

  below_from : (i j : ℕ) → Kept i → Kept j → Below other (to i) (to j) → Below log i j
  below_from i j ki kj (inl d) = inl ((same_strict i j ki kj).1 d)
  below_from i j ki kj (inr p) = inr ((same_po i j ki kj).1 p)

  -- kept events that race do so in the other log
  pub races_to : (i j : ℕ) → Kept i → Kept j → Races log i j → Races other (to i) (to j)
  races_to i j ki kj r = record {
    before = lt_to s.moved ki r.before;
    conflict = conflict_to s.moved ki kj r.conflict;
    unordered = λ b. r.unordered (below_from i j ki kj b);
  }

  -- kept events that race in the other log do so in this one
  pub races_from : (i j : ℕ) → Kept i → Kept j → Races other (to i) (to j) → Races log i j
  races_from i j ki kj r = record {
    before = lt_from s.moved r.before;
    conflict = conflict_from s.moved ki kj refl refl r.conflict;
    unordered = λ b. r.unordered (below_to i j ki kj b);
  }

  -- an event that races in the other log is that of a kept one
  from_race : {x j : ℕ} → Kept j → Races other x (to j) → (i : ℕ) × Kept i × (to i ≡ x) × Races log i j
  from_race {j = j} kj r =
      let p = from_does s.moved r.conflict.does_first in
      let moved_race : Races other (to p.0) (to j) = subst (λ (k : ℕ). Races other k (to j)) (sym p.2) r in
      (p.0, p.1, p.2, races_from p.0 j p.1 kj moved_race)

  -- a kept event without a race has none in the other log
  pub clear_to : (j : ℕ) → KeepsConflicts log Kept → Kept j → IsVerdict log j Clear
      → IsVerdict other (to j) Clear
  clear_to j all kj none = λ x r. (let p = from_race kj r in none p.0 p.3)

  -- the verdict on a kept event names the same earlier event in the other log
  pub racy_to : (j i : ℕ) → KeepsConflicts log Kept → Kept j → IsVerdict log j (Racy i)
      → IsVerdict other (to j) (Racy (to i))
  racy_to j i all kj v = (
    races_to i j (all i j v.0.conflict).0 kj v.0,
    λ x lt r. (let p = from_race kj r in
        let is : to p.0 ≡ x = p.2 in
        v.1 p.0 (lt_from s.moved (omega (arith, is, lt))) p.3),
  )

  -- a kept event without a race in the other log has none in this one
  pub clear_from : (j : ℕ) → KeepsConflicts log Kept → Kept j → IsVerdict other (to j) Clear
      → IsVerdict log j Clear
  clear_from j all kj none = λ i r. none (to i) (races_to i j (all i j r.conflict).0 kj r)

  -- the verdict on a kept event in the other log names a kept event
  pub racy_from : (j x : ℕ) → KeepsConflicts log Kept → Kept j → IsVerdict other (to j) (Racy x)
      → (i : ℕ) × (to i ≡ x) × IsVerdict log j (Racy i)
  racy_from j x all kj v =
      let p = from_race kj v.0 in
      let is : to p.0 ≡ x = p.2 in (
        p.0,
        is,
        (
          p.3,
          λ k lt r. (
              let kk = (all k j r.conflict).0 in
              let up = lt_to s.moved p.1 lt in
              v.1 (to k) (omega (arith, is, up)) (races_to k j kk kj r)),
        ),
      )

-- The race at the end of a witness.
use Rattle.std.proofs.Common.{◌≡◌, ℕ, suc, ◌+◌, ◌<◌, List, [], ◌∷◌, ◌++◌, Some, slice_get, refl, ap, sym, ◌∙◌}
use Rattle.std.proofs.Common.{subst, arith, length, length-append}
use Rattle.event_core.specs.declared.events.Event.{Event}
use Rattle.event_core.specs.declared.events.Op.{Op}
use Rattle.event_core.specs.declared.bounds.Limits.{Limits}
use Rattle.event_core.specs.Log.{Of, Conflict, OpsConflict}
use Rattle.event_core.specs.Refusal.{WellFormed}
use Rattle.event_core.specs.Verdict.{Races}
use Rattle.event_core.proofs.ConflictProperties.{access_first, access_second}
use Rattle.event_core.proofs.OrderlyProperties.{orderly}
use Rattle.event_core.proofs.LogProperties.{of_does, of_one}
use Rattle.event_core.proofs.Places.{get_last, get_before}
use Rattle.event_core.proofs.StrictIsWithinHb.{below_hb}
use Rattle.witness.specs.Indices.{events_at}
use Rattle.witness.specs.Witness.{IsWitness}
use Rattle.witness.specs.EndLaws.{next_event, with_ends, RaceAtEnd}
use Rattle.witness.proofs.WithEndsProperties.{ends_formed}
use Rattle.witness.proofs.Neighbors.{unordered}

-- a witness for two accesses is one for them in the other order
pub turned : {m : Limits} {log : List Event} {i j : ℕ} {s : List ℕ} → IsWitness m log i j s
    → IsWitness m log j i s
turned w = record {
  program_order = w.program_order;
  first = w.second;
  second = w.first;
  legal = w.legal;
  reads = w.reads;
}

-- the two events at the end conflict
ends_conflict : (before : List Event) (e f : Event) → OpsConflict e.op f.op → (e.thread ≡ f.thread → ⊥)
    → Conflict (with_ends before e f) (length before) (suc (length before))
ends_conflict before e f ops apart = record {
  first = e.op;
  second = f.op;
  by = e.thread;
  other = f.thread;
  does_first = record {
    event = new;
    at = get_before one (last ∷ []) (length before) new (get_last before new);
    thread = refl;
    does = refl;
  };
  does_second = record { event = last; at = at; thread = refl; does = refl };
  ops = ops;
  threads = apart;
}
  where
    new : Event
    new = next_event before e

    one : List Event
    one = before ++ new ∷ []

    last : Event
    last = next_event one f

    at : slice_get (one ++ last ∷ []) (suc (length before)) ≡ Some last
    at =
        let long : length one ≡ length before + 1 = length-append before (new ∷ []) in
        let is : length one ≡ suc (length before) = omega arith in
        subst (λ (n : ℕ). slice_get (one ++ last ∷ []) n ≡ Some last) is (get_last one last)

-- two conflicting accesses race at the end of their witness
pub at_end : (m : Limits) (log : List Event) (i j : ℕ) (s : List ℕ) (e f : Event) → WellFormed m log
    → slice_get log i ≡ Some e → slice_get log j ≡ Some f → Conflict log i j → IsWitness m log i j s
    → RaceAtEnd m (events_at log s) e f
at_end m log i j s e f formed at_i at_j c w = record {
  well_formed = end_formed;
  unordered = unordered n conflict;
  races = races;
  verdict = (races, λ k lt r. (let b : k < suc n = r.before in omega arith));
}
  where
    n : ℕ
    n = length (events_at log s)

    first_is : c.does_first.event ≡ e
    first_is = let q : Some c.does_first.event ≡ Some e = sym c.does_first.at ∙ at_i in cc

    second_is : c.does_second.event ≡ f
    second_is = let q : Some c.does_second.event ≡ Some f = sym c.does_second.at ∙ at_j in cc

    first_op : c.first ≡ e.op
    first_op = sym c.does_first.does ∙ ap (λ (x : Event). x.op) first_is

    second_op : c.second ≡ f.op
    second_op = sym c.does_second.does ∙ ap (λ (x : Event). x.op) second_is

    ops : OpsConflict e.op f.op
    ops = subst (λ (o : Op). OpsConflict o f.op) first_op
        (subst (λ (o : Op). OpsConflict c.first o) second_op c.ops)

    apart : e.thread ≡ f.thread → ⊥
    apart q =
        c.threads (sym c.does_first.thread ∙ ap (λ (x : Event). x.thread) first_is ∙ q
        ∙ sym (ap (λ (x : Event). x.thread) second_is) ∙ c.does_second.thread)

    distinct : i ≡ j → ⊥
    distinct q =
        c.threads (of_one (of_does c.does_first)
        (subst (λ (k : ℕ). Of log k c.other) (sym q) (of_does c.does_second)))

    end_formed : WellFormed m (with_ends (events_at log s) e f)
    end_formed =
        ends_formed m log i j s e f formed at_i at_j (access_first e.op f.op ops)
        (access_second e.op f.op ops) distinct w

    conflict : Conflict (with_ends (events_at log s) e f) n (suc n)
    conflict = ends_conflict (events_at log s) e f ops apart

    races : Races (with_ends (events_at log s) e f) n (suc n)
    races = record {
      before = omega arith;
      conflict = conflict;
      unordered = λ b. unordered n conflict
          (below_hb (orderly m (with_ends (events_at log s) e f) end_formed) b);
    }

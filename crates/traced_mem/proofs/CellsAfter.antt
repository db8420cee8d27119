-- The variables after an accepted call.
use Rattle.std.proofs.Common.{◌≡◌, ℕ, None, List, [], ◌∷◌, ◌++◌, ap, refl, ◌∙◌, if◌then◌else◌}
use Rattle.std.proofs.lemmas.Bool.{cond-false}
use Rattle.event_core.specs.declared.events.Event.{Event}
use Rattle.event_core.specs.declared.events.Call.{Call}
use Rattle.event_core.specs.declared.bounds.Limits.{Limits}
use Rattle.event_core.specs.declared.events.Op.{Op}
use Rattle.event_core.specs.declared.events.Op.TheVariants.{Store}
use Rattle.event_core.specs.Refusal.{refusal, op_stores, last_value, last_value_from, event_of, value_of}
use Rattle.event_core.specs.Refusal.{WellFormed}
use Rattle.traced_mem.specs.After.{cells_after}
use Rattle.traced_mem.specs.Standing.{var_id, meaning_of}
use Rattle.traced_mem.proofs.UpdatedProperties.{updated_if}
use Rattle.traced_mem.proofs.LongerLogs.{value_snoc}

module _ (k : Limits) (log : List Event) (c : Call) (w : WellFormed k log) (h : refusal k log c ≡ None) where
  cells_law_at : (o : Op) → c.op ≡ o → (n : ℕ)
      → last_value (log ++ event_of log c ∷ []) (var_id n)
      ≡ cells_after o c.arg (λ x. last_value log (var_id x)) n
  unfolding last_value
  cells_law_at (Store x) q = λ n.
      value_snoc 0 log (event_of log c) (var_id n)
      ∙ ap (λ (o : Op). if op_stores (var_id n) o then value_of log o c.arg else
      last_value_from 0 log (var_id n)) q
      ∙ updated_if x.0 c.arg (λ x. last_value_from 0 log (var_id x))
      (λ b n. if b then c.arg else last_value_from 0 log (var_id n)) refl (λ n. refl) n
  cells_law_at _ q = λ n. value_snoc 0 log (event_of log c) (var_id n)
      ∙ cond-false _ _ _ (ap (op_stores (var_id n)) q)

  -- the values of all variables after an accepted call
  pub cells_law : (meaning_of (log ++ event_of log c ∷ [])).cell
      ≡ cells_after c.op c.arg (meaning_of log).cell
  cells_law i n = cells_law_at c.op refl n i

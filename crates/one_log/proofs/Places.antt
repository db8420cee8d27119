-- The places of accepted acts in a log.
use Rattle.std.proofs.Common.{◌≡◌, ℕ, ◌+◌, ◌<◌, List, [], ◌∷◌, ◌++◌, length, refl, sym, ap, ◌∙◌, subst, arith}
use Rattle.std.proofs.Common.{length-append}
use mathlib.Core.List.{IsPrefix}
use Rattle.event_core.specs.declared.events.Event.{Event}
use Rattle.event_core.specs.declared.events.Act.{Act}
use Rattle.event_core.specs.declared.events.Act.TheVariants.{One, Swap}
use Rattle.event_core.specs.declared.bounds.Limits.{Limits}
use Rattle.event_core.specs.declared.replies.Done.{Done}
use Rattle.event_core.specs.declared.replies.Done.TheVariants.{One as Answered, Swap as Swapped, Refused}
use Rattle.event_core.specs.declared.replies.Verdict.{Verdict}
use Rattle.event_core.specs.Acts.{IsDone, step_of, swap_load, swap_store}
use Rattle.event_core.specs.Refusal.{event_of}
use Rattle.event_core.specs.Steps.{step_events, log_of}
use Rattle.event_core.specs.Verdict.{IsVerdict}
use Rattle.event_core.proofs.RelationsStay.{longer, verdict_too}
use Rattle.event_core.proofs.StepsProperties.{log_of-snoc}
use Rattle.one_log.specs.OneLog.{HasVerdicts, HavePlaces}

-- a verdict stays in a longer log
stays : (xs log : List Event) (n : ℕ) (v : Verdict) → n < length xs → IsPrefix xs log → IsVerdict xs n v
    → IsVerdict log n v
stays xs log n v lt p h =
    subst (λ l. IsVerdict l n v) p.1 (verdict_too n v (longer xs p.0) lt h)

verdicts : (m : Limits) (log before : List Event) (act : Act) (done : Done) → IsDone m before act done
    → IsPrefix (before ++ step_events (step_of before act)) log → HasVerdicts log done
verdicts m log before (One c) (Answered a) d p =
    let e : Event = event_of before c in
    let sum : length (before ++ e ∷ []) ≡ length before + length (e ∷ []) = length-append before (e ∷ []) in
    let one : length (e ∷ []) ≡ 1 = refl in
    let at : a.index ≡ length before = d.1 in
    subst (λ n. IsVerdict log n a.verdict) (sym at)
    (stays (before ++ e ∷ []) log (length before) a.verdict (omega (arith, sum, one)) p d.3)
verdicts m log before (One c) (Refused r) d p = tt
verdicts m log before (Swap u x site arg) (Swapped a) d p =
    let e : Event = swap_load before u x site in
    let f : Event = swap_store u x site arg in
    let sum : length (before ++ e ∷ f ∷ []) ≡ length before + length (e ∷ f ∷ [])
    = length-append before (e ∷ f ∷ []) in
    let two : length (e ∷ f ∷ []) ≡ 2 = refl in
    let at : a.index ≡ length before = d.index in (
      subst (λ n. IsVerdict log n a.load) (sym at)
          (stays (before ++ e ∷ f ∷ []) log (length before) a.load (omega (arith, sum, two)) p d.load),
      subst (λ n. IsVerdict log (n + 1) a.store) (sym at)
          (stays (before ++ e ∷ f ∷ []) log (length before + 1) a.store (omega (arith, sum, two)) p d.store),
    )
verdicts m log before (Swap u x site arg) (Refused r) d p = tt
verdicts m log before (One c) (Swapped a) d p = absurd d
verdicts m log before (Swap u x site arg) (Answered a) d p = absurd d

-- each accepted act has its place
pub have_places : (m : Limits) (log : List Event) → HavePlaces m log
have_places m log act before after done a p =
    let seen : log_of after.seen ≡ log_of a.steps ++ step_events (step_of (log_of a.steps) act)
    = ap log_of a.seen ∙ log_of-snoc a.steps (step_of (log_of a.steps) act) in
    let events : IsPrefix (log_of a.steps ++ step_events (step_of (log_of a.steps) act)) log
    = subst (λ l. IsPrefix l log) seen p in
    record {
      before = log_of a.steps;
      outcome = a.outcome;
      events = events;
      verdicts = verdicts m log (log_of a.steps) act done a.outcome events;
    }

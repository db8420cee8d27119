-- One verdict more.
use Rattle.std.proofs.Common.{◌≡◌, ℕ, ◌+◌, ◌<◌, List, [], ◌∷◌, ◌++◌, Some, None, length, refl, sym, ap}
use Rattle.std.proofs.Common.{◌∙◌, ◌⊎◌, slice_get, arith}
use Rattle.std.proofs.lemmas.List.{length_push}
use Rattle.std.proofs.lemmas.Option.{slice_get_within}
use mathlib.Core.Logic.{inl, inr}
use Rattle.event_core.specs.declared.events.Event.{Event}
use Rattle.event_core.specs.declared.replies.Verdict.{Verdict}
use Rattle.event_core.specs.Verdict.{IsVerdict}
use Rattle.event_core.proofs.CountedProperties.{grown_length}
use Rattle.event_core.proofs.Places.{front_or_last}
use Rattle.event_core.proofs.RelationsStay.{verdict_too, longer}
use Rattle.seq_monitor.specs.Monitored.{AreVerdicts}

-- the empty log has no verdicts
pub no_verdicts : AreVerdicts [] []
no_verdicts = record { all = refl; each = λ j v is. absurd (let q : None ≡ Some v = is in cc) }

-- the verdicts on a log stay, and the verdict on one more event is added
pub one_verdict_more : (log : List Event) (e : Event) (vs : List Verdict) (v : Verdict) → AreVerdicts log vs
    → IsVerdict (log ++ e ∷ []) (length log) v → AreVerdicts (log ++ e ∷ []) (vs ++ v ∷ [])
one_verdict_more log e vs v are is = record {
  all = length_push vs v ∙ (ap (λ n. n + 1) are.all ∙ sym (grown_length log e));
  each = λ j w at. go j w (front_or_last vs v j w at);
}
  where
    go : (j : ℕ) (w : Verdict) → (slice_get vs j ≡ Some w) ⊎ ((j ≡ length vs) × (w ≡ v))
        → IsVerdict (log ++ e ∷ []) j w
    go j w (inl at) =
        let within : j < length vs = slice_get_within vs j w at in
        let all : length vs ≡ length log = are.all in
        verdict_too j w (longer log (e ∷ [])) (omega arith) (are.each j w at)
    go j w (inr h) =
        rw (h.0, are.all, h.1) is

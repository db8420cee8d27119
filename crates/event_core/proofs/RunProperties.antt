-- Runs of calls and of acts: each has one, and it ends in a well-formed log.
use Rattle.std.proofs.Common.{◌≡◌, List, [], ◌∷◌, length, ◌+◌, refl, sym, ap, subst, ◌∙◌, Some, None}
use Rattle.event_core.proofs.Words.{Event, Call, Limits}
use Rattle.event_core.specs.declared.events.Act.{Act}
use Rattle.event_core.specs.declared.events.Act.TheVariants.{One, Swap}
use Rattle.event_core.specs.declared.replies.SwapReply.{SwapReply}
use Rattle.event_core.specs.declared.replies.Outcome.{Outcome}
use Rattle.event_core.specs.declared.replies.Outcome.TheVariants.{Accepted, Refused}
use Rattle.event_core.specs.declared.replies.Done.{Done}
use Rattle.event_core.specs.declared.replies.Done.TheVariants.{One as Did, Swap as Swapped}
use Rattle.event_core.specs.declared.replies.Done.TheVariants.{Refused as Declined}
use Rattle.event_core.specs.Refusal.{refusal, Legal, WellFormed, event_of}
use Rattle.event_core.specs.Verdict.{IsOutcome, log_after, IsRun}
use Rattle.event_core.specs.Acts.{log_after_swap, log_after_act, IsDone, IsActRun}
use Rattle.event_core.proofs.BelowProperties.{verdict_is_unique}
use Rattle.event_core.proofs.WellFormedProperties.{well_formed_grown, outcome_is_unique}
use Rattle.event_core.proofs.StepsProperties.{follow_formed}
use Rattle.event_core.proofs.SwapRefusalProperties.{swap_legal}

-- the event of a call that is not refused is legal
pub allowed_legal : (m : Limits) (log : List Event) (c : Call) → refusal m log c ≡ None
    → Legal m log (event_of log c)
allowed_legal m log c h = record { call = c; allowed = h; is = refl }

-- the log after a call
after_call : (m : Limits) (log : List Event) (c : Call) (o : Outcome) → WellFormed m log → IsOutcome m log c o
    → WellFormed m (log_after log c o)
after_call m log c (Refused r) w p = w
after_call m log c (Accepted a) w p = well_formed_grown m log (event_of log c) w (allowed_legal m log c p.0)

-- a run after a well-formed log ends in one
pub run_keeps : (m : Limits) (log : List Event) (cs : List Call) (os : List Outcome) (end : List Event)
    → WellFormed m log → IsRun m log cs os end → WellFormed m end
run_keeps m log [] [] end w p = subst (λ xs. WellFormed m xs) (sym p) w
run_keeps m log (c ∷ cs) (o ∷ os) end w p =
    run_keeps m (log_after log c o) cs os end (after_call m log c o w p.0) p.1
run_keeps m log [] (o ∷ os) end w p = absurd p
run_keeps m log (c ∷ cs) [] end w p = absurd p

-- the log after an act
after_act : (m : Limits) (log : List Event) (a : Act) (d : Done) → WellFormed m log → IsDone m log a d
    → WellFormed m (log_after_act log a d)
after_act m log (One c) (Did a) w p = well_formed_grown m log (event_of log c) w (allowed_legal m log c p.0)
after_act m log (One c) (Declined r) w p = w
after_act m log (One c) (Swapped a) w p = absurd p
after_act m log (Swap u x site arg) (Swapped a) w p =
    follow_formed m log _ w (swap_legal m log u x site arg w p.allowed)
after_act m log (Swap u x site arg) (Declined r) w p = w
after_act m log (Swap u x site arg) (Did a) w p = absurd p

-- a run of acts after a well-formed log ends in one
pub act_run_keeps : (m : Limits) (log : List Event) (acts : List Act) (ds : List Done) (end : List Event)
    → WellFormed m log → IsActRun m log acts ds end → WellFormed m end
act_run_keeps m log [] [] end w p = subst (λ xs. WellFormed m xs) (sym p) w
act_run_keeps m log (a ∷ acts) (d ∷ ds) end w p =
    act_run_keeps m (log_after_act log a d) acts ds end (after_act m log a d w p.0) p.1
act_run_keeps m log [] (d ∷ ds) end w p = absurd p
act_run_keeps m log (a ∷ acts) [] end w p = absurd p

same_swap_reply : (a b : SwapReply) → a.index ≡ b.index → a.value ≡ b.value → a.load ≡ b.load
    → a.store ≡ b.store → a ≡ b
same_swap_reply a b p q r s = λ i. record { index = p i; value = q i; load = r i; store = s i }

-- an act has one outcome
pub act_outcome_is_unique : (m : Limits) (log : List Event) (a : Act) (d e : Done) → IsDone m log a d
    → IsDone m log a e → d ≡ e
act_outcome_is_unique m log (One c) (Did a) (Did b) p q =
    let same : Accepted a ≡ Accepted b = outcome_is_unique m log c (Accepted a) (Accepted b) p q in
    let inner : a ≡ b = cc in
    ap Did inner
act_outcome_is_unique m log (One c) (Declined r) (Declined s) p q =
    let same : Some r ≡ Some s = sym p ∙ q in cc
act_outcome_is_unique m log (One c) (Declined r) (Did a) p q =
    absurd (let same : Some r ≡ None = sym p ∙ q.0 in cc)
act_outcome_is_unique m log (One c) (Did a) (Declined s) p q =
    absurd (let same : Some s ≡ None = sym q ∙ p.0 in cc)
act_outcome_is_unique m log (One c) (Swapped a) e p q = absurd p
act_outcome_is_unique m log (Swap u x site arg) (Swapped a) (Swapped b) p q =
    let after = log_after_swap log u x site arg in
    ap Swapped (same_swap_reply a b (p.index ∙ sym q.index) (p.value ∙ sym q.value)
    (verdict_is_unique after (length log) a.load b.load p.load q.load)
    (verdict_is_unique after (length log + 1) a.store b.store p.store q.store))
act_outcome_is_unique m log (Swap u x site arg) (Declined r) (Declined s) p q =
    let same : Some r ≡ Some s = sym p ∙ q in cc
act_outcome_is_unique m log (Swap u x site arg) (Declined r) (Swapped b) p q =
    absurd (let same : Some r ≡ None = sym p ∙ q.allowed in cc)
act_outcome_is_unique m log (Swap u x site arg) (Swapped a) (Declined s) p q =
    absurd (let same : Some s ≡ None = sym q ∙ p.allowed in cc)
act_outcome_is_unique m log (Swap u x site arg) (Did a) e p q = absurd p
act_outcome_is_unique m log _ _ _ p q = absurd q

-- and a list of acts has one run
pub act_run_is_unique : (m : Limits) (log : List Event) (acts : List Act) (ds es : List Done)
    (x y : List Event) → IsActRun m log acts ds x → IsActRun m log acts es y → (ds ≡ es) × (x ≡ y)
act_run_is_unique m log [] [] [] x y p q = (refl, p ∙ sym q)
act_run_is_unique m log (a ∷ acts) (d ∷ ds) (e ∷ es) x y p q =
    let same : d ≡ e = act_outcome_is_unique m log a d e p.0 q.0 in
    let q' : IsActRun m (log_after_act log a d) acts es y
    = subst (λ o. IsActRun m (log_after_act log a o) acts es y) (sym same) q.1 in
    let rest = act_run_is_unique m (log_after_act log a d) acts ds es x y p.1 q' in
    (let whole : d ∷ ds ≡ e ∷ es = cc in whole, rest.1)
act_run_is_unique m log [] (d ∷ ds) es x y p q = absurd p
act_run_is_unique m log (a ∷ acts) [] es x y p q = absurd p
act_run_is_unique m log _ _ _ x y p q = absurd q

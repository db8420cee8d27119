-- A pass whose thread tries an acquire again.
use Rattle.std.proofs.Common.{◌≡◌, List, [], ◌∷◌, ◌++◌, Result, Ok, Err, ap, subst, sym, ◌∙◌}
use mathlib.Core.List.{IsPrefix}
use Rattle.event_core.specs.declared.bounds.Limits.{Limits}
use Rattle.event_core.specs.declared.ids.LockId.{LockId}
use Rattle.event_core.specs.declared.ids.SiteId.{SiteId}
use Rattle.event_core.specs.declared.events.Event.{Event}
use Rattle.event_core.specs.declared.replies.Refusal.{Refusal}
use Rattle.event_core.specs.declared.replies.Reply.{Reply}
use Rattle.event_core.specs.declared.steps.Step.TheVariants.{One}
use Rattle.event_core.specs.Refusal.{event_of}
use Rattle.event_core.specs.Steps.{log_of, own_events}
use Rattle.log_pass.specs.declared.views.PassView.{PassView}
use Rattle.log_pass.proofs.Prefixes.{prefix_trans}
use Rattle.live_monitor.specs.Calls.{acquire_by, Answers, HasComeTo}
use Rattle.live_monitor.specs.Rules.{HasOwn, MayAdd}

-- after tries that were not accepted the pass is the same thread's, has seen what it had, and made no step
pub record HasTried (before now : PassView) : Type 0 where
  pub same_thread : now.thread ≡ before.thread
  pub begins : IsPrefix before.seen now.seen
  pub mine : now.mine ≡ before.mine

-- an acquire that may be added may also be added after tries that were not accepted
pub may_add_again : (keeps : List Event → Type 0) {p q : PassView} (l : LockId) (site : SiteId) → HasTried p q
    → MayAdd keeps p (acquire_by p.thread l site) → MayAdd keeps q (acquire_by q.thread l site)
may_add_again keeps {p} {q} l site tried may log own kept =
    let its : HasOwn p log
    = ap log_of (sym tried.mine) ∙ (own ∙ ap (λ t. own_events t log) tried.same_thread) in
    subst (λ t. keeps (log ++ event_of log (acquire_by t l site) ∷ [])) (sym tried.same_thread)
    (may log its kept)

-- the answer to the last try of an acquire is the answer to the acquire as a whole
pub answers_all : (m : Limits) {p q : PassView} (r : PassView) (l : LockId) (site : SiteId)
    (answer : Result Reply Refusal) → HasTried p q → Answers m (acquire_by q.thread l site) q r answer
    → Answers m (acquire_by p.thread l site) p r answer
answers_all m {p} {q} r l site answer tried last =
    all answer (subst (λ t. Answers m (acquire_by t l site) q r answer) tried.same_thread last)
  where
    later : HasComeTo m q r → HasComeTo m p r
    later come = record {
      same_thread = come.same_thread ∙ tried.same_thread;
      begins = prefix_trans _ _ _ tried.begins come.begins;
      is_pass = come.is_pass;
    }

    all : (answer : Result Reply Refusal) → Answers m (acquire_by p.thread l site) q r answer
        → Answers m (acquire_by p.thread l site) p r answer
    all (Ok reply) at =
        let did = at.accepted in
        let event = One (event_of (log_of did.steps) (acquire_by p.thread l site)) in
        record {
          later = later at.later;
          accepted = record {
            steps = did.steps;
            begins = prefix_trans _ _ _ tried.begins did.begins;
            outcome = did.outcome;
            seen = did.seen;
            mine = did.mine ∙ ap (λ xs. xs ++ event ∷ []) tried.mine;
          };
          declined = tt;
        }
    all (Err why) at = record {
      later = later at.later;
      accepted = tt;
      declined = record { mine = at.declined.mine ∙ tried.mine; why = at.declined.why };
    }

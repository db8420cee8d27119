use Rattle.std.proofs.Common.{rules, ◌≡◌, ℕ, zero, suc, ◌<◌, ◌≤◌, ◌⊎◌, List, [], ◌∷◌, length, get_or}
use Rattle.std.proofs.Common.{refl, sym, ap, ◌∙◌, inl, inr}
use Rattle.std.proofs.lemmas.Bool.{cases_lt}
use Rattle.std.proofs.lemmas.List.{get_or_default, get_or_past}
use Rattle.lock_queues.specs.Queue.{OneQueue, no_queue, queue_at}
use Rattle.lock_queues.specs.Queues.{AreWide}
use Rattle.lock_queues.proofs.queues.grow.Goals as goal

abbrev blank : ℕ → OneQueue
blank width = record no_queue { width = width }

-- past the end a blank says what no queue says, except for its width
blank_at : {A : Type 0} (f : OneQueue → A) (w : ℕ) → f (blank w) ≡ f no_queue → (qs : List OneQueue) (l : ℕ)
    → f (get_or qs l (blank w)) ≡ f (queue_at qs l)
blank_at f w same [] l = same
blank_at f w same (q ∷ qs) zero = refl
blank_at f w same (q ∷ qs) (suc l) = blank_at f w same qs l

-- so lists that read alike with a blank say the same
alike_at : {A : Type 0} (f : OneQueue → A) (w : ℕ) (old new : List OneQueue) (l : ℕ) → f (blank w)
    ≡ f no_queue
    → get_or new l (blank w) ≡ get_or old l (blank w) → f (queue_at new l) ≡ f (queue_at old l)
alike_at f w old new l same here =
    sym (blank_at f w same new l) ∙ ap f here ∙ blank_at f w same old l

pub returns-clause-same : goal.returns-clause-same
returns-clause-same c l =
    let w : ℕ = c.args.width in
    let old = c.args.queues.now.items in
    let new = c.grow_to.new.list.items in
    let here = c.grow_to.ensures.same (blank w) (λ q given. search rules) l in (
      alike_at (λ (q : OneQueue). q.entries) w old new l refl here,
      alike_at (λ (q : OneQueue). q.slots) w old new l refl here,
      alike_at (λ (q : OneQueue). q.found) w old new l refl here,
      alike_at (λ (q : OneQueue). q.reserved) w old new l refl here,
    )

-- each queue, or else a blank, has the width
width_at : (w : ℕ) (qs : List OneQueue) (l : ℕ) → AreWide w qs → (get_or qs l (blank w)).width ≡ w
width_at w qs l wide = go (cases_lt l (length qs))
  where
    go : (l < length qs) ⊎ (length qs ≤ l) → (get_or qs l (blank w)).width ≡ w
    go (inl lt) = ap (λ (q : OneQueue). q.width) (get_or_default qs l (blank w) no_queue lt) ∙ wide l lt
    go (inr le) = ap (λ (q : OneQueue). q.width) (get_or_past qs l (blank w) le)

pub returns-clause-wide : goal.returns-clause-wide
returns-clause-wide c l within =
    let w : ℕ = c.args.width in
    ap (λ (q : OneQueue). q.width) (get_or_default c.grow_to.new.list.items l no_queue (blank w) within
    ∙ c.grow_to.ensures.same (blank w) (λ q given. search rules) l)
    ∙ width_at w c.args.queues.now.items l c.requires.wide

pub returns-clause-slots : goal.returns-clause-slots
returns-clause-slots c =
    c.grow_to.ensures.sums (blank c.args.width) (λ q. length q.slots) (λ q given. search rules) refl

-- How a thread gets on with its lines.
use Rattle.std.proofs.Common.{◌≡◌, ℕ, ◌+◌, ◌<◌, List, [], ◌∷◌, ◌++◌, true, sym, ap, ◌∙◌, subst, length}
use Rattle.std.proofs.Common.{take, drop, take-append-drop, get_or, cond, ◌⊎◌, ◌≤◌, add-one, map, nat_eq}
use Rattle.std.proofs.Common.{false, refl}
use Rattle.std.specs.List.{list_any}
use Rattle.std.proofs.Math.Seq.{drop-cons}
use Rattle.std.proofs.lemmas.Bool.{or_cases, or_left, or_right, eqb-true}
use Rattle.std.proofs.lemmas.List.{append-nil, take_all}
use Rattle.std.proofs.lemmas.List.Elements.{All-push, filter-append, filter_more, filter_map-append}
use mathlib.Core.Logic.{inl, inr}
use mathlib.Core.List.{IsPrefix}
use Rattle.event_core.specs.declared.ids.ThreadId.{ThreadId}
use Rattle.event_core.specs.declared.bounds.Limits.{Limits}
use Rattle.event_core.specs.declared.events.Event.{Event}
use Rattle.event_core.specs.declared.steps.Step.{Step}
use Rattle.event_core.specs.Refusal.{forks}
use Rattle.event_core.specs.Steps.{log_of, own_events}
use Rattle.event_core.proofs.DepthProperties.{same_thread_id}
use Rattle.event_core.proofs.StepsProperties.{any_front}
use Rattle.live_monitor.specs.Calls.{HasComeTo}
use Rattle.log_pass.specs.declared.views.PassView.{PassView}
use Rattle.log_pass.specs.Passes.{main, new_pass, seeing, IsPass}
use Rattle.script_text.specs.declared.lines.ScriptLine.{ScriptLine}
use Rattle.script_text.specs.Lines.{fork_of, is_of, join_of, thread_of}
use Rattle.script_drive.specs.Ends.{PassedGate}
use Rattle.script_drive.specs.Lines.{asked_by, lines_by, unread, Follows}
use Rattle.script_drive.specs.Runs.{HasStarted, IsRunOf}
use Rattle.script_drive.specs.Workers.{Does, Done, HasDone, IsFirst, Reach, SawRun, Serves, forked, joined}
use Rattle.live_monitor.proofs.LogOfProperties.{log_begins}
use Rattle.script_drive.proofs.IsRunOfProperties.{asked-snoc, nothing_ran}

-- a thread that has started has done so in a longer log
started_more : (t : ThreadId) (xs ys : List Event) → IsPrefix xs ys → HasStarted t xs → HasStarted t ys
started_more t xs ys begins h = go (or_cases (nat_eq t.0 0) (list_any (forks t) xs) h)
  where
    go : (nat_eq t.0 0 ≡ true) ⊎ (list_any (forks t) xs ≡ true) → HasStarted t ys
    go (inl is) = or_left (nat_eq t.0 0) (list_any (forks t) ys) is
    go (inr is) = or_right (nat_eq t.0 0) (list_any (forks t) ys)
        (subst (λ (log : List Event). list_any (forks t) log ≡ true) begins.1
        (any_front (forks t) xs begins.0 is))

-- a first pass is one of its own thread
pub own_first : (script : List ScriptLine) (t : ThreadId) (p : PassView) → IsFirst script t p
    → IsFirst script p.thread p
own_first script t p h = subst (λ (u : ThreadId). IsFirst script u p) (sym h.thread) h

-- and thread 0's has seen nothing
pub main_first : (script : List ScriptLine) (p : PassView) → p ≡ new_pass main []
    → IsFirst script p.thread p
main_first script p is =
    let first : IsFirst script main (new_pass main []) = record {
      thread = refl;
      no_step = refl;
      started = refl;
      run = nothing_ran script;
    } in
    own_first script main p (subst (IsFirst script main) (sym is) first)

-- a thread's first pass has done none of its lines
pub first_done : {script : List ScriptLine} (t : ThreadId) (p : PassView) → IsFirst script t p
    → HasDone t p []
first_done t p h = record {
  thread = h.thread;
  started = h.started;
  follows = ap (λ (s : List Step). map unread (log_of s)) h.no_step;
}

-- what a pass has done stands in the log that it has seen
pub made_of : (m : Limits) (t : ThreadId) (p : PassView) (lines : List ScriptLine) → IsPass m p
    → HasDone t p lines → Follows (own_events t (log_of p.seen)) lines
made_of m t p lines is h = subst (λ (es : List Event). Follows es lines)
    (is.own_events ∙ ap (λ (u : ThreadId). own_events u (log_of p.seen)) h.thread) h.follows

-- the pass has seen more, and done no more
pub done_later : (m : Limits) (t : ThreadId) (p q : PassView) (lines : List ScriptLine) → HasComeTo m p q
    → q.mine ≡ p.mine → HasDone t p lines → HasDone t q lines
done_later m t p q lines later mine h = record {
  thread = later.same_thread ∙ h.thread;
  started = started_more t (log_of p.seen) (log_of q.seen) (log_begins p.seen q.seen later.begins) h.started;
  follows = subst (λ (s : List Step). Follows (log_of s) lines) (sym mine) h.follows;
}

-- the same of a pass that has only seen more
pub done_seen : (t : ThreadId) (p q : PassView) (lines : List ScriptLine) → q ≡ seeing q.seen p
    → IsPrefix p.seen q.seen → HasDone t p lines → HasDone t q lines
done_seen t p q lines same begins h = record {
  thread = ap (λ (r : PassView). r.thread) same ∙ h.thread;
  started = started_more t (log_of p.seen) (log_of q.seen) (log_begins p.seen q.seen begins) h.started;
  follows = subst (λ (s : List Step). Follows (log_of s) lines) (sym (ap (λ (r : PassView). r.mine) same))
      h.follows;
}

-- and that is a run of the script
pub saw_later : {m : Limits} {script : List ScriptLine} {p q : PassView} → HasComeTo m p q
    → IsRunOf script (log_of q.seen) → SawRun m script q
saw_later later run = record { is_pass = later.is_pass; run = run }

-- one more line is done
pub done_more : (t : ThreadId) (p q : PassView) (lines : List ScriptLine) (l : ScriptLine)
    → HasDone t p lines → Does l p q → HasDone t q (lines ++ l ∷ [])
done_more t p q lines l h does = record {
  thread = does.thread ∙ h.thread;
  started = started_more t (log_of p.seen) (log_of q.seen) (log_begins p.seen q.seen does.begins) h.started;
  follows = does.mine ∙ (ap (λ (es : List Event). es ++ asked_by l.act) h.follows ∙ sym (asked-snoc lines l));
}

-- ---- a thread's lines among those of the script

module _ (t : ThreadId) (lines : List ScriptLine) (i : ℕ) (line : ScriptLine)
    (is : line ≡ get_or lines i line) (lt : i < length lines) where
  rest : drop i lines ≡ line ∷ drop (i + 1) lines
  rest = subst (λ (l : ScriptLine). drop i lines ≡ l ∷ drop (i + 1) lines) (sym is)
      (drop-cons lines i line lt
      ∙ ap (λ (n : ℕ). get_or lines i line ∷ drop n lines) (sym (add-one i)))

  taken : lines_by t (take (i + 1) lines) ≡ lines_by t (take i lines) ++ cond (is_of t.0 line) (line ∷ []) []
  taken = subst (λ (l : ScriptLine). lines_by t (take (i + 1) lines)
      ≡ lines_by t (take i lines) ++ cond (is_of t.0 l) (l ∷ []) []) (sym is)
      (filter_more (is_of t.0) lines i line lt)

  left : lines_by t (drop i lines) ≡ cond (is_of t.0 line) (line ∷ lines_by t (drop (i + 1) lines))
      (lines_by t (drop (i + 1) lines))
  left = ap (lines_by t) rest

  -- a line of its own is the next
  module _ (own : is_of t.0 line ≡ true) where
    pub own_taken : lines_by t (take (i + 1) lines) ≡ lines_by t (take i lines) ++ line ∷ []
    own_taken = taken ∙ rw own refl

    pub own_left : lines_by t (drop i lines) ≡ line ∷ lines_by t (drop (i + 1) lines)
    own_left = left ∙ rw own refl

    -- it is one of the thread
    pub own_thread : thread_of line ≡ t
    own_thread = same_thread_id (eqb-true (thread_of line).0 t.0 own)

    -- its place among the thread's lines
    pub own_place : lines_by (thread_of line) lines
        ≡ lines_by t (take i lines) ++ line ∷ lines_by t (drop (i + 1) lines)
    own_place = ap (λ (u : ThreadId). lines_by u lines) own_thread
        ∙ (ap (lines_by t) (sym (take-append-drop i lines))
        ∙ (filter-append (is_of t.0) (take i lines) (drop i lines)
        ∙ ap (λ (r : List ScriptLine). lines_by t (take i lines) ++ r) own_left))

    -- once its call is accepted, one more line is done
    pub done_at : (p q : PassView) → HasDone t p (lines_by t (take i lines)) → Does line p q
        → HasDone t q (lines_by t (take (i + 1) lines))
    done_at p q h does = subst (HasDone t q) (sym own_taken)
        (done_more t p q (lines_by t (take i lines)) line h does)

    -- and passed the gate
    pub passed_at : (admitted told : ThreadId → ℕ → Type 0) → admitted (thread_of line) line.line
        → told (thread_of line) line.line → PassedGate admitted told (lines_by t (take i lines))
        → PassedGate admitted told (lines_by t (take (i + 1) lines))
    passed_at admitted told entered done before =
        subst (λ (ls : List ScriptLine). PassedGate admitted told ls) (sym own_taken)
        (All-push (λ (l : ScriptLine). admitted (thread_of l) l.line × told (thread_of l) l.line)
        (lines_by t (take i lines)) line before (entered, done))

    -- the links serve it and the lines after it
    pub next_line : (reach : Reach) → Serves reach (lines_by t (drop i lines))
        → Serves reach (line ∷ lines_by t (drop (i + 1) lines))
    next_line reach serves = subst (Serves reach) own_left serves

    -- links with the ends for one more line
    pub served_more : (old new : Reach) → Serves old (lines_by t (take i lines))
        → new.forks ≡ old.forks ++ forked (line ∷ []) → new.joins ≡ old.joins ++ joined (line ∷ [])
        → Serves new (lines_by t (take (i + 1) lines))
    served_more old new h forks joins =
        let before = lines_by t (take i lines) in
        record {
          forks = forks ∙ (ap (λ (l : List ThreadId). l ++ forked (line ∷ [])) h.forks
              ∙ (sym (filter_map-append fork_of before (line ∷ [])) ∙ ap forked (sym own_taken)));
          joins = joins ∙ (ap (λ (l : List ThreadId). l ++ joined (line ∷ [])) h.joins
              ∙ (sym (filter_map-append join_of before (line ∷ [])) ∙ ap joined (sym own_taken)));
        }

  -- another thread's is passed over
  module _ (other : is_of t.0 line ≡ false) where
    -- the lines before are the same
    pub other_taken : lines_by t (take (i + 1) lines) ≡ lines_by t (take i lines)
    other_taken = taken ∙ (rw other (append-nil (lines_by t (take i lines))))

    -- the lines that are left are the same
    pub other_left : lines_by t (drop i lines) ≡ lines_by t (drop (i + 1) lines)
    other_left = left ∙ rw other refl

-- after the last one
pub all_done : (script lines : List ScriptLine) (t : ThreadId) (p : PassView) (i : ℕ) → lines ≡ script
    → length lines ≤ i → HasDone t p (lines_by t (take i lines)) → Done script t p
all_done script lines t p i same le h =
    subst (λ (l : List ScriptLine). HasDone t p (lines_by t l)) (take_all i lines le ∙ same) h

-- Once no worker ended by a halt, all lines passed the gate, and the log has all lines of each thread that no
-- line joins.
use Rattle.std.proofs.Common.{◌≡◌, ℕ, ◌<◌, List, [], ◌∷◌, ◌++◌, Bool, true, false, Option, Some, None}
use Rattle.std.proofs.Common.{Result, Ok, Err, refl, sym, ap, ◌∙◌, subst, inl, inr, ◌⊎◌, length, get_or, map}
use Rattle.std.proofs.Common.{append-nil, cond, arith, length-append, nat_eq, zero, suc}
use Rattle.std.specs.Prelude.{slice_get, filter, unwrap_or, IfErr, IfOk, IsOk, OnOk}
use Rattle.std.specs.List.{All, Contains, cons_option, filter_map}
use Rattle.std.proofs.lemmas.Bool.{eq-eqb, eqb-true, false≢true, or_left}
use Rattle.std.proofs.lemmas.List.{get_or_default, length-map, nil_from_length}
use Rattle.std.proofs.lemmas.Option.{slice_get-get_or}
use Rattle.std.proofs.lemmas.List.Concat.{flat_map-append}
use Rattle.std.proofs.lemmas.List.Elements.{All-cons, All-contains, All-contains_itself, All-filter}
use Rattle.std.proofs.lemmas.List.Elements.{All-head, All-map, All-nil, All-tail}
use Rattle.std.proofs.lemmas.List.Elements.{filter-append, filter_passes, Contains-append_left}
use Rattle.std.proofs.lemmas.List.Elements.{Contains-append_right, Contains-push}
use mathlib.Core.List.{IsPrefix}
use Rattle.event_core.specs.declared.bounds.Limits.{Limits}
use Rattle.event_core.specs.declared.events.Event.{Event}
use Rattle.event_core.specs.declared.ids.ThreadId.{ThreadId}
use Rattle.event_core.specs.Steps.{log_of, own_events}
use Rattle.event_core.proofs.DepthProperties.{same_thread_id}
use Rattle.live_monitor.proofs.LogOfProperties.{log_begins}
use Rattle.log_pass.specs.declared.views.PassView.{PassView}
use Rattle.log_pass.specs.Passes.{main, seeing, IsPass}
use Rattle.log_pass.proofs.Prefixes.{prefix_self, prefix_trans}
use Rattle.script_text.specs.declared.lines.ScriptLine.{ScriptLine}
use Rattle.script_text.specs.Lines.{fork_of, forks, is_of, is_thread, thread_of}
use Rattle.script_text.specs.Scripts.{AllReached, Reached}
use Rattle.script_text.specs.Scripts as scripts
use Rattle.script_drive.specs.declared.faults.DriveFault.{DriveFault}
use Rattle.script_drive.specs.declared.faults.Halt.{Halt}
use Rattle.script_drive.specs.declared.faults.Halt.TheVariants.{Abandoned, Fault, NotForked}
use Rattle.script_drive.specs.Ends.{end_fault, EndMet, HasEnded, HasMet, IsThrough, PassedGate, SawAll}
use Rattle.script_drive.specs.Ends.{WorkerEnd}
use Rattle.script_drive.specs.Faults.{IsFaultOf, IsHaltOf}
use Rattle.script_drive.specs.Lines.{asked, asked_by, lines_by, unread, AllMadeFrom, Follows}
use Rattle.script_drive.specs.Lines.{IsUnjoined}
use Rattle.script_drive.specs.Runs.{IsRunOf}
use Rattle.script_drive.specs.Workers.{Done, forked}
use Rattle.script_drive.proofs.Joins.{joined_made}
use Rattle.script_drive.proofs.HasDoneProperties.{done_seen}

-- ---- one worker

-- what is known of a worker's thread, where the pass has met its end
pub end_through : (m : Limits) (ahead : Bool) (script : List ScriptLine)
    (admitted told : ThreadId → ℕ → Type 0) (t : ThreadId) (p : PassView) (end : WorkerEnd)
    → HasEnded m ahead script admitted told t end → EndMet p end → IsThrough script admitted told p t
end_through m ahead script admitted told t p (Ok (Some last)) ended met = record {
  passed = ended.passed;
  saw = λ unjoined. record {
    log = met.log;
    begins = met.begins;
    made = subst (λ (u : ThreadId). Follows (own_events u met.log) (lines_by t script)) ended.last.thread
        (subst (λ (es : List Event). Follows es (lines_by t script)) met.own ended.last.follows);
  };
}
end_through m ahead script admitted told t p (Ok None) ended met = record {
  passed = ended.passed;
  saw = λ unjoined. absurd (false≢true (sym unjoined ∙ ended.sent refl));
}
end_through m ahead script admitted told t p (Err halt) ended met = absurd met

-- a pass has met one that has just seen the same
pub met_now : (m : Limits) (p q last : PassView) → q ≡ seeing p.seen last → IsPass m q → HasMet p last
met_now m p q last same is_pass = record {
  log = log_of p.seen;
  begins = prefix_self (log_of p.seen);
  own = (subst (IsPass m) same is_pass).own_events;
}

-- and has met it still once it has seen more
pub met_later : (p q : PassView) (end : WorkerEnd) → IsPrefix p.seen q.seen → EndMet p end → EndMet q end
met_later p q (Ok (Some last)) begins met = record {
  log = met.log;
  begins = prefix_trans met.log (log_of p.seen) (log_of q.seen) met.begins (log_begins p.seen q.seen begins);
  own = met.own;
}
met_later p q (Ok None) begins met = tt
met_later p q (Err halt) begins met = absurd met

-- a pass that has seen more, and then more
pub seeing_more : (p q r : PassView) → q ≡ seeing q.seen p → r ≡ seeing r.seen q → r ≡ seeing r.seen p
seeing_more p q r first then = then ∙ ap (seeing r.seen) first

-- a pass that has met others has done what it had
pub finished : (script : List ScriptLine) (t : ThreadId) (p : PassView) (r : Result PassView DriveFault)
    → Done script t p → IfOk r (λ last. last ≡ seeing last.seen p)
    → IfOk r (λ last. IsPrefix p.seen last.seen) → IfOk r (Done script t)
finished script t p (Ok last) done same begins =
    done_seen t p last (lines_by t script) same begins done
finished script t p (Err fault) done same begins = tt

-- ---- all workers

-- the own faults of workers that end so are faults of the script
pub faults_fit : (m : Limits) (ahead : Bool) (script : List ScriptLine) (ends : List WorkerEnd)
    → All (λ end. IfErr end (IsHaltOf m ahead script)) ends
    → All (IsFaultOf m ahead script) (filter_map end_fault ends)
faults_fit m ahead script [] all = All-nil (IsFaultOf m ahead script)
faults_fit m ahead script (e ∷ es) all =
    go e (All-head (λ end. IfErr end (IsHaltOf m ahead script)) e es all)
    (faults_fit m ahead script es (All-tail (λ end. IfErr end (IsHaltOf m ahead script)) e es all))
  where
    go : (end : WorkerEnd) → IfErr end (IsHaltOf m ahead script)
        → All (IsFaultOf m ahead script) (filter_map end_fault es)
        → All (IsFaultOf m ahead script) (cons_option (end_fault end) (filter_map end_fault es))
    go (Ok last) is later = later
    go (Err (Fault f)) is later =
        All-cons (IsFaultOf m ahead script) f (filter_map end_fault es) is later
    go (Err (Abandoned l)) is later = later
    go (Err (NotForked n)) is later = later

-- at each place the end of the worker whose handle is there
module _ {H : Type 0} (m : Limits) (ahead : Bool) (script : List ScriptLine)
    (admitted told : ThreadId → ℕ → Type 0) (handles : List H) (ends : List WorkerEnd) (thread : H → ThreadId)
    (len : length ends ≡ length handles)
    (kept : (i : ℕ) (d : WorkerEnd) → i < length handles → (h : H) × (h ≡ get_or handles i h)
    × HasEnded m ahead script admitted told (thread h) (get_or ends i d)) where
  -- each halt is one of the script
  pub all_halts : All (λ end. IfErr end (IsHaltOf m ahead script)) ends
  all_halts k d lt = (kept k d (omega (arith, lt, len))).2.halt

  pub all_through : (p : PassView) → All (EndMet p) ends
      → All (IsThrough script admitted told p) (map thread handles)
  all_through p met = All-map (IsThrough script admitted told p) thread handles (λ k d lt.
      let one = kept k (Ok None) lt in
      subst (λ (h : H). IsThrough script admitted told p (thread h))
      (one.1 ∙ get_or_default handles k one.0 d lt)
      (end_through m ahead script admitted told (thread one.0) p (get_or ends k (Ok None)) one.2
      (met k (Ok None) (omega (arith, lt, len)))))

  -- where the run ends so
  pub through_ok : (threads : List ThreadId) (r : Result PassView DriveFault) → map thread handles ≡ threads
      → IfOk r (λ last. All (EndMet last) ends)
      → IfOk r (λ last. All (IsThrough script admitted told last) threads)
  through_ok threads (Ok last) same met =
      subst (All (IsThrough script admitted told last)) same (all_through last met)
  through_ok threads (Err fault) same met = tt

-- what is known where thread 0 ended by no halt is known where the run ends by no fault
pub passed_ok : (P : Type 0) (r : Result PassView DriveFault) (end : Result PassView Halt) → OnOk r (IsOk end)
    → IfOk end (λ _. P) → IfOk r (λ _. P)
passed_ok P (Ok last) (Ok own) is passed = passed
passed_ok P (Ok last) (Err halt) is passed = absurd (false≢true is)
passed_ok P (Err fault) end is passed = tt

-- ---- the closed log

-- events of which the first follow all lines of a thread, and all follow its first lines, follow all its
-- lines
no_more : (es more : List Event) (first rest lines : List ScriptLine) → first ++ rest ≡ lines
    → Follows es lines → Follows (es ++ more) first → Follows (es ++ more) lines
no_more es more first rest lines parts all begun =
    let split : asked lines ≡ asked first ++ asked rest = ap asked (sym parts)
    ∙ flat_map-append (λ (x : ScriptLine). asked_by x.act) first rest in
    let none : more ≡ [] = nil_from_length more (omega (
      arith,
      ap length all,
      ap length split,
      ap length begun,
      length-map es unread,
      length-map (es ++ more) unread,
      length-append es more,
      length-append (asked first) (asked rest),
    )) in
    subst (λ (found : List Event). Follows found lines)
    (sym (ap (λ (later : List Event). es ++ later) none ∙ append-nil es)) all

-- a run of the script that begins with what the pass has seen has all lines of a thread that the pass saw
saw_all_made : (script : List ScriptLine) (log : List Event) (t : ThreadId) (p : PassView)
    → IsRunOf script log → IsPrefix (log_of p.seen) log → SawAll script t p
    → Follows (own_events t log) (lines_by t script)
saw_all_made script log t p run begins saw =
    let whole = prefix_trans saw.log (log_of p.seen) log saw.begins begins in
    let more = whole.0 in
    let parts : own_events t log ≡ own_events t saw.log ++ own_events t more
    = ap (own_events t) (sym whole.1) ∙ filter-append (λ (e : Event). nat_eq e.thread.0 t.0) saw.log more in
    let first = run.first t in
    subst (λ (es : List Event). Follows es (lines_by t script)) (sym parts)
    (no_more (own_events t saw.log) (own_events t more) first.first first.begins.0 (lines_by t script)
    first.begins.1 saw.made (subst (λ (es : List Event). Follows es first.first) parts first.follows))

-- ---- the threads of a script

-- a thread that is reached is thread 0, or a line forks it
reached_cases : {lines : List ScriptLine} {n : ℕ} → Reached lines n → (n ≡ 0)
    ⊎ ((k : ℕ) × (l : ScriptLine) × (slice_get lines k ≡ Some l) × (forks n l ≡ true))
reached_cases scripts.main = inl refl
reached_cases (scripts.forked k l at own forks from) = inr (k, l, at, forks)

-- what is found of an element is among what is found of all
contains_found : (found : ScriptLine → Option ThreadId) (xs : List ScriptLine) (k : ℕ) (x : ScriptLine)
    (y : ThreadId) → slice_get xs k ≡ Some x → found x ≡ Some y → Contains (filter_map found xs) y
contains_found found [] k x y at is = absurd cc
contains_found found (z ∷ zs) zero x y at is =
    let first : found z ≡ Some y = ap (λ (o : Option ScriptLine). found (unwrap_or o z)) at ∙ is in
    subst (λ (o : Option ThreadId). Contains (cons_option o (filter_map found zs)) y) (sym first)
    (Contains-append_left (y ∷ []) (filter_map found zs) y (Contains-push [] y))
contains_found found (z ∷ zs) (suc k) x y at is =
    go (found z) (contains_found found zs k x y at is)
  where
    go : (o : Option ThreadId) → Contains (filter_map found zs) y
        → Contains (cons_option o (filter_map found zs)) y
    go None later = later
    go (Some w) later = Contains-append_right (w ∷ []) (filter_map found zs) y later

-- the thread that a line forks
forked_thread : (t : ThreadId) (o : Option ThreadId) → is_thread t.0 o ≡ true → o ≡ Some t
forked_thread t None test = absurd (cc test)
forked_thread t (Some u) test = ap Some (same_thread_id (eqb-true u.0 t.0 test))

-- a thread with a line is thread 0, or a line forks it
line_forked : (lines : List ScriptLine) (t : ThreadId) (l : ScriptLine) → AllReached lines
    → Contains lines l → is_of t.0 l ≡ true → (t ≡ main) ⊎ Contains (forked lines) t
line_forked lines t l reached at own =
    let here : slice_get lines at.0 ≡ Some l = slice_get-get_or lines at.0 l at.1 ∙ ap Some at.2 in
    elim (reached_cases (reached at.0 l here t.0 (or_left (is_of t.0 l) _ own))) as
    (λ _. (t ≡ main) ⊎ Contains (forked lines) t) [
      | inl first ↦ inl (same_thread_id first)
      | inr fork ↦ inr (contains_found fork_of lines fork.0 fork.1 t fork.2
          (forked_thread t (fork_of fork.1) fork.3))
    ]

-- so each thread has no line, or is thread 0, or a line forks it
pub thread_cases : (lines : List ScriptLine) (t : ThreadId) → AllReached lines
    → (lines_by t lines ≡ []) ⊎ ((t ≡ main) ⊎ Contains (forked lines) t)
thread_cases lines t reached =
    go (lines_by t lines) (All-filter (is_of t.0) (Contains lines) lines (All-contains_itself lines))
    (filter_passes (is_of t.0) lines)
  where
    go : (own : List ScriptLine) → All (Contains lines) own → All (λ l. is_of t.0 l ≡ true) own
        → (own ≡ []) ⊎ ((t ≡ main) ⊎ Contains (forked lines) t)
    go [] within are = inl refl
    go (l ∷ ls) within are = inr (line_forked lines t l reached (All-head (Contains lines) l ls within)
        (All-head (λ (x : ScriptLine). is_of t.0 x ≡ true) l ls are))

-- ---- all threads

-- what holds of the elements that pass a test holds of one that does
from_passing : {X : Type 0} (P : X → Type 0) (p : X → Bool) (xs : List X) (k : ℕ) (d : X) → k < length xs
    → p (get_or xs k d) ≡ true → All P (filter p xs) → P (get_or xs k d)
from_passing P p [] k d lt is all = absurd (omega (arith, lt))
from_passing P p (x ∷ xs) zero d lt is all = All-head P x (filter p xs)
    (subst (λ (b : Bool). All P (cond b (x ∷ filter p xs) (filter p xs))) is all)
from_passing P p (x ∷ xs) (suc k) d lt is all =
    from_passing P p xs k d (omega (arith, lt)) is (go (p x) all)
  where
    go : (b : Bool) → All P (cond b (x ∷ filter p xs) (filter p xs)) → All P (filter p xs)
    go true all = All-tail P x (filter p xs) all
    go false all = all

-- what holds of each thread's lines holds of all
all_lines : (P : ScriptLine → Type 0) (lines : List ScriptLine)
    → ((t : ThreadId) → All P (lines_by t lines)) → All P lines
all_lines P lines each k d lt =
    let t = thread_of (get_or lines k d) in
    from_passing P (is_of t.0) lines k d lt (eq-eqb t.0 t.0 refl) (each t)

module _ (script : List ScriptLine) (admitted told : ThreadId → ℕ → Type 0) (p : PassView)
    (reached : AllReached script) (others : All (IsThrough script admitted told p) (forked script)) where
  through : (t : ThreadId) → Contains (forked script) t → IsThrough script admitted told p t
  through t is = All-contains (IsThrough script admitted told p) (forked script) t others is

  -- all lines passed the gate
  pub all_passed : PassedGate admitted told (lines_by main script) → PassedGate admitted told script
  all_passed own = all_lines (λ l. admitted (thread_of l) l.line × told (thread_of l) l.line) script
      (λ t. go t (thread_cases script t reached))
    where
      go : (t : ThreadId) → (lines_by t script ≡ []) ⊎ ((t ≡ main) ⊎ Contains (forked script) t)
          → PassedGate admitted told (lines_by t script)
      go t (inl none) = subst (λ (ls : List ScriptLine). PassedGate admitted told ls) (sym none)
          (All-nil (λ l. admitted (thread_of l) l.line × told (thread_of l) l.line))
      go t (inr (inl first)) =
          subst (λ (u : ThreadId). PassedGate admitted told (lines_by u script)) (sym first) own
      go t (inr (inr is)) = (through t is).passed

  -- a thread that no line joins has made all its lines, as have those that are joined from it
  pub unjoined_made : (log : List Event) → IsRunOf script log → IsPrefix (log_of p.seen) log
      → Follows (own_events main log) (lines_by main script) → (t : ThreadId) → IsUnjoined script t
      → AllMadeFrom script log t
  unjoined_made log run begins own t unjoined =
      let made = go (thread_cases script t reached) in
      (made, λ u from. joined_made script log run t u made from)
    where
      go : (lines_by t script ≡ []) ⊎ ((t ≡ main) ⊎ Contains (forked script) t)
          → Follows (own_events t log) (lines_by t script)
      go (inl none) =
          let first = run.first t in
          let nothing : first.first ≡ [] = nil_from_length first.first
          (omega (arith, ap length (first.begins.1 ∙ none), length-append first.first first.begins.0)) in
          subst (λ (ls : List ScriptLine). Follows (own_events t log) ls) (nothing ∙ sym none) first.follows
      go (inr (inl first)) =
          subst (λ (u : ThreadId). Follows (own_events u log) (lines_by u script)) (sym first) own
      go (inr (inr is)) = saw_all_made script log t p run begins ((through t is).saw unjoined)

-- What a thread's next line adds to a run of the script is a run again.
use Rattle.std.proofs.Common.{◌≡◌, ℕ, ◌≤◌, List, [], ◌∷◌, ◌++◌, Bool, true, false, cond, refl, sym, ap}
use Rattle.std.proofs.Common.{◌∙◌, append_assoc, arith, length, length-append, map, nat_eq, subst, ◌⊎◌, ◌||◌}
use Rattle.std.specs.List.{list_any, AllByRecursion}
use Rattle.std.proofs.lemmas.Bool.{eq-eqb, eqb-true, or_cases}
use Rattle.std.proofs.lemmas.List.{append-nil, map-append}
use Rattle.std.proofs.lemmas.List.Concat.{flat_map-append}
use Rattle.std.proofs.lemmas.List.Elements.{filter-append}
use Rattle.std.proofs.lemmas.List.Folds.{list_any-append}
use mathlib.Core.Logic.{inl, inr}
use Rattle.event_core.specs.declared.ids.SiteId.{SiteId}
use Rattle.event_core.specs.declared.ids.ThreadId.{ThreadId}
use Rattle.event_core.specs.declared.ids.VarId.{VarId}
use Rattle.event_core.specs.declared.events.Act.{Act}
use Rattle.event_core.specs.declared.events.Act.TheVariants.{One, Swap}
use Rattle.event_core.specs.declared.events.Call.{Call}
use Rattle.event_core.specs.declared.events.Event.{Event}
use Rattle.event_core.specs.declared.events.Op.{Op}
use Rattle.event_core.specs.declared.events.Op.TheVariants.{Load, Fork, Join}
use Rattle.event_core.specs.declared.bounds.Limits.{Limits}
use Rattle.event_core.specs.declared.replies.Reply.{Reply}
use Rattle.event_core.specs.declared.steps.Step.TheVariants.{One as OneStep}
use Rattle.event_core.specs.Acts.{swap_load, swap_store}
use Rattle.event_core.specs.Refusal.{event_of, joins, op_joins, value_of}
use Rattle.event_core.specs.Steps.{log_of, own_events}
use Rattle.event_core.proofs.DepthProperties.{same_thread_id}
use Rattle.event_core.proofs.StepsProperties.{log_of-snoc, not_both}
use Rattle.live_monitor.specs.Calls.{call_by, join_by, names_thread, Accepted, HasComeTo}
use Rattle.live_monitor.specs.Rules.{HasOwn, MayAdd, MayJoin, MaySwap}
use Rattle.log_pass.specs.declared.views.PassView.{PassView}
use Rattle.script_text.specs.declared.lines.ScriptLine.{ScriptLine}
use Rattle.script_text.specs.Lines.{act_thread, thread_of}
use Rattle.script_drive.specs.Faults.{IsNext}
use Rattle.script_drive.specs.Lines.{asked, asked_by, given, lines_by, unread, Follows}
use Rattle.script_drive.specs.Runs.{FollowsFirst, IsRunOf}
use Rattle.script_drive.specs.Workers.{Does, Done}

-- the empty log is a run
pub nothing_ran : (script : List ScriptLine) → IsRunOf script []
nothing_ran script = record {
  first = λ t. record { first = []; begins = (lines_by t script, refl); follows = refl };
  whole = λ t test. absurd (cc test);
}

-- one more line asks for its events at the end
pub asked-snoc : (lines : List ScriptLine) (l : ScriptLine)
    → asked (lines ++ l ∷ []) ≡ asked lines ++ asked_by l.act
asked-snoc lines l = flat_map-append (λ (x : ScriptLine). asked_by x.act) lines (l ∷ [])
    ∙ ap (λ (es : List Event). asked lines ++ es) (append-nil (asked_by l.act))

asks_some : (a : Act) → 1 ≤ length (asked_by a)
asks_some (One c) = omega arith
asks_some (Swap t x site arg) = omega arith

-- ---- events of one thread

abbrev AreBy : ThreadId → List Event → Type 0
AreBy t = AllByRecursion (λ (e : Event). e.thread ≡ t)

own_all : (t : ThreadId) (es : List Event) → AreBy t es → own_events t es ≡ es
own_all t [] by = refl
own_all t (e ∷ es) by =
    ap (λ (b : Bool). cond b (e ∷ own_events t es) (own_events t es))
    (eq-eqb e.thread.0 t.0 (ap (λ (u : ThreadId). u.0) by.0))
    ∙ ap (λ (r : List Event). e ∷ r) (own_all t es by.1)

own_none : (t u : ThreadId) (es : List Event) → nat_eq t.0 u.0 ≡ false → AreBy t es → own_events u es ≡ []
own_none t u [] other by = refl
own_none t u (e ∷ es) other by =
    ap (λ (b : Bool). cond b (e ∷ own_events u es) (own_events u es))
    (ap (λ (v : ThreadId). nat_eq v.0 u.0) by.0 ∙ other)
    ∙ own_none t u es other by.1

-- ---- the events that a line asks for are added

module _ {m : Limits} (script : List ScriptLine) (l : ScriptLine) (p : PassView) (next : IsNext m script l p)
    (log es : List Event) (own : HasOwn p log) (run : IsRunOf script log) (by : AreBy p.thread es)
    (asks : map unread es ≡ asked_by l.act)
    (ends : (u : ThreadId) → list_any (joins u) es ≡ true
    → Follows (own_events u (log ++ es)) (lines_by u script)) where
  place : lines_by p.thread script ≡ next.before ++ l ∷ next.later
  place = subst (λ (t : ThreadId). lines_by t script ≡ next.before ++ l ∷ next.later)
      (sym next.done.thread) next.place

  made : Follows (own_events p.thread log) next.before
  made = subst (λ (r : List Event). Follows r next.before) own next.done.follows

  its : own_events p.thread (log ++ es) ≡ own_events p.thread log ++ es
  its = filter-append (λ (e : Event). nat_eq e.thread.0 p.thread.0) log es
      ∙ ap (λ (r : List Event). own_events p.thread log ++ r) (own_all p.thread es by)

  made_more : Follows (own_events p.thread (log ++ es)) (next.before ++ l ∷ [])
  made_more = ap (map unread) its ∙ (map-append unread (own_events p.thread log) es
      ∙ (ap (λ (r : List Event). r ++ map unread es) made
      ∙ (ap (λ (r : List Event). asked next.before ++ r) asks ∙ sym (asked-snoc next.before l))))

  -- another thread's are the same
  others : (u : ThreadId) → nat_eq p.thread.0 u.0 ≡ false → own_events u (log ++ es) ≡ own_events u log
  others u other = filter-append (λ (e : Event). nat_eq e.thread.0 u.0) log es
      ∙ (ap (λ (r : List Event). own_events u log ++ r) (own_none p.thread u es other by)
      ∙ append-nil (own_events u log))

  first : (u : ThreadId) → FollowsFirst (own_events u (log ++ es)) (lines_by u script)
  first u = go (nat_eq p.thread.0 u.0) refl
    where
      go : (b : Bool) → nat_eq p.thread.0 u.0 ≡ b
          → FollowsFirst (own_events u (log ++ es)) (lines_by u script)
      go true is =
          subst (λ (t : ThreadId). FollowsFirst (own_events t (log ++ es)) (lines_by t script))
          (same_thread_id (eqb-true p.thread.0 u.0 is)) (record {
            first = next.before ++ l ∷ [];
            begins = (next.later, append_assoc next.before (l ∷ []) next.later ∙ sym place);
            follows = made_more;
          })
      go false other = subst (λ (r : List Event). FollowsFirst r (lines_by u script)) (sym (others u other))
          (run.first u)

  -- the thread had a line left, so it was not joined
  unfinished : Follows (own_events p.thread log) (lines_by p.thread script) → ⊥
  unfinished all =
      let same : asked next.before ≡ asked (next.before ++ l ∷ next.later)
      = sym made ∙ (all ∙ ap asked place) in
      let parts = flat_map-append (λ (x : ScriptLine). asked_by x.act) next.before (l ∷ next.later) in
      omega (
        arith,
        asks_some l.act,
        ap length same,
        ap length parts,
        length-append (asked next.before) (asked (l ∷ next.later)),
        length-append (asked_by l.act) (asked next.later),
      )

  whole : (u : ThreadId) → list_any (joins u) (log ++ es) ≡ true
      → Follows (own_events u (log ++ es)) (lines_by u script)
  whole u test = go (or_cases (list_any (joins u) log) (list_any (joins u) es)
      (sym (list_any-append (joins u) log es) ∙ test))
    where
      old : (b : Bool) → nat_eq p.thread.0 u.0 ≡ b → list_any (joins u) log ≡ true
          → Follows (own_events u (log ++ es)) (lines_by u script)
      old true is joined = absurd (unfinished
          (subst (λ (t : ThreadId). Follows (own_events t log) (lines_by t script))
          (sym (same_thread_id (eqb-true p.thread.0 u.0 is))) (run.whole u joined)))
      old false other joined = subst (λ (r : List Event). Follows r (lines_by u script))
          (sym (others u other)) (run.whole u joined)

      go : (list_any (joins u) log ≡ true) ⊎ (list_any (joins u) es ≡ true)
          → Follows (own_events u (log ++ es)) (lines_by u script)
      go (inl joined) = old (nat_eq p.thread.0 u.0) refl joined
      go (inr now) = ends u now

  run_more : IsRunOf script (log ++ es)
  run_more = record { first = first; whole = whole }

-- ---- the calls

value_given : (log : List Event) (op : Op) (arg : ℕ) → given op (value_of log op arg) ≡ given op arg
value_given log (Load x) arg = refl
value_given log _ arg = refl

-- the event of a line's call is what the line asks for
pub event_asked : (log : List Event) (l : ScriptLine) (call : Call) (t : ThreadId) (op : Op) (arg : ℕ)
    → l.act ≡ One call → thread_of l ≡ t → call.op ≡ op → given op call.arg ≡ given op arg
    → map unread (event_of log (call_by t op call.site arg) ∷ []) ≡ asked_by l.act
event_asked log l call t op arg act thread is same =
    let own : t ≡ call.thread = sym thread ∙ ap act_thread act in
    let value : given op (value_of log op arg) ≡ given call.op call.arg
    = value_given log op arg ∙ (sym same ∙ ap (λ (o : Op). given o call.arg) (sym is)) in
    let its : op ≡ call.op = sym is in
    let events : map unread (event_of log (call_by t op call.site arg) ∷ []) ≡ asked_by (One call) = λ i.
    (let e : Event = record { thread = own i; op = its i; site = call.site; value = value i } in e) ∷ [] in
    events ∙ sym (ap asked_by act)

-- an operation that is no fork and no join names no thread
pub names_none : (op : Op) → ((u : ThreadId) → op ≡ Fork u → ⊥) → ((u : ThreadId) → op ≡ Join u → ⊥)
    → names_thread op ≡ false
names_none (Fork u) fork join = absurd (fork u refl)
names_none (Join u) fork join = absurd (join u refl)
names_none _ fork join = refl

-- one that is no join joins no thread
pub joins_none : (op : Op) → ((u : ThreadId) → op ≡ Join u → ⊥) → (u : ThreadId) → op_joins u op ≡ false
joins_none (Join v) join u = absurd (join v refl)
joins_none _ join u = refl

-- the one who is joined made all its lines
joined_all : (script : List ScriptLine) (log : List Event) (u v : ThreadId) (child : PassView)
    → Done script u child → HasOwn child log → (nat_eq child.thread.0 v.0 || false) ≡ true
    → Follows (own_events v log) (lines_by v script)
joined_all script log u v child done its test =
    let all : Follows (own_events child.thread log) (lines_by child.thread script)
    = subst (λ (r : List Event). Follows r (lines_by child.thread script)) its
    (subst (λ (t : ThreadId). Follows (log_of child.mine) (lines_by t script)) (sym done.thread)
    done.follows) in
    subst (λ (t : ThreadId). Follows (own_events t log) (lines_by t script))
    (same_thread_id (eqb-true child.thread.0 v.0 (left (nat_eq child.thread.0 v.0) test))) all
  where
    left : (b : Bool) → (b || false) ≡ true → b ≡ true
    left true e = refl
    left false e = e

module _ {m : Limits} {script : List ScriptLine} {l : ScriptLine} {p : PassView} (next : IsNext m script l p)
  where
    thread : thread_of l ≡ p.thread
    thread = sym next.done.thread

    -- a line's call that joins nobody adds to a run of the script
    pub may_add : {call : Call} {op : Op} (arg : ℕ) → l.act ≡ One call → call.op ≡ op
        → given op call.arg ≡ given op arg → ((u : ThreadId) → op_joins u op ≡ false)
        → MayAdd (IsRunOf script) p (call_by p.thread op call.site arg)
    may_add {call} {op} arg act is same none log own run =
        run_more script l p next log (event_of log (call_by p.thread op call.site arg) ∷ []) own run
        (refl, tt) (event_asked log l call p.thread op arg act thread is same)
        (λ u test. absurd (not_both _ test (ap (λ (b : Bool). b || false) (none u))))

    -- so does its swap
    pub may_swap : {t : ThreadId} {x : VarId} {site : SiteId} {arg : ℕ} → l.act ≡ Swap t x site arg
        → MaySwap (IsRunOf script) p x site arg
    may_swap {x = x} {site = site} {arg = arg} act log own run =
        let asks : asked_by (Swap p.thread x site arg) ≡ asked_by l.act
        = ap (λ (u : ThreadId). asked_by (Swap u x site arg)) (sym thread ∙ ap act_thread act)
        ∙ sym (ap asked_by act) in
        run_more script l p next log
        (swap_load log p.thread x site ∷ swap_store p.thread x site arg ∷ []) own run (refl, (refl, tt)) asks
        (λ u test. absurd (cc test))

    -- so does its join, by a pass of the child that made all its lines
    pub may_join : {call : Call} {u : ThreadId} {child : PassView} → l.act ≡ One call → call.op ≡ Join u
        → Done script u child → MayJoin (IsRunOf script) p child (join_by p.thread child.thread call.site)
    may_join {call} {u} {child} act op done log own its run =
        let e = event_of log (join_by p.thread child.thread call.site) in
        run_more script l p next log (e ∷ []) own run (refl, tt)
        (event_asked log l call p.thread (Join child.thread) 0 act thread (op ∙ ap Join (sym done.thread))
        refl)
        (λ v test. joined_all script (log ++ e ∷ []) u v child done its test)

    -- a pass whose line's call was accepted did the line
    pub call_does : {call : Call} {op : Op} {q : PassView} {reply : Reply} (arg : ℕ)
        → l.act ≡ One call → call.op ≡ op → given op call.arg ≡ given op arg → HasComeTo m p q
        → Accepted m (call_by p.thread op call.site arg) p q reply → Does l p q
    call_does {call = call} {op = op} arg act is same later did =
        let made = call_by p.thread op call.site arg in
        let log = log_of did.steps in record {
          thread = later.same_thread;
          begins = later.begins;
          mine = ap (λ ds. map unread (log_of ds)) did.mine
              ∙ (ap (map unread) (log_of-snoc p.mine (OneStep (event_of log made)))
              ∙ (map-append unread (log_of p.mine) (event_of log made ∷ [])
              ∙ ap (λ es. map unread (log_of p.mine) ++ es)
              (event_asked log l call p.thread op arg act thread is same)));
        }

-- In the log of a run of a script each number has a name.
use Rattle.std.proofs.Common.{◌≡◌, List, [], ◌∷◌, ◌++◌, Bool, true, false, cond, map, nat_eq, sym, subst}
use Rattle.std.specs.List.{All, AllByRecursion}
use Rattle.std.proofs.lemmas.List.Elements.{All-filter, All-from_recursion, All-head, All-tail}
use Rattle.std.proofs.lemmas.Option.{get_or_from_slice_get, slice_get-get_or, slice_get_within}
use Rattle.event_core.specs.declared.ids.ThreadId.{ThreadId}
use Rattle.event_core.specs.declared.events.Act.{Act}
use Rattle.event_core.specs.declared.events.Act.TheVariants.{One, Swap}
use Rattle.event_core.specs.declared.events.Event.{Event}
use Rattle.event_core.specs.Steps.{own_events}
use Rattle.event_core.proofs.CountedProperties.{nat_eq_same}
use Rattle.rapid_text.specs.Events.{HasNames}
use Rattle.rapid_text.specs.Tables.{Tables}
use Rattle.script_drive.specs.Lines.{asked, asked_by, lines_by, unread}
use Rattle.script_drive.specs.Runs.{FollowsFirst, IsRunOf}
use Rattle.script_text.specs.declared.lines.ScriptLine.{ScriptLine}
use Rattle.script_text.specs.Lines.{is_of}
use Rattle.script_text.specs.Scripts.{act_event, IsScript, Parsed}
use Rattle.trace_report.specs.Reports.{AreNamed}

abbrev AreAllNamed : Tables → List Event → Type 0
AreAllNamed names = AllByRecursion (HasNames names)

abbrev LineNamed : Tables → ScriptLine → Type 0
LineNamed names l = HasNames names (act_event l.act)

front : {X : Type 0} (P : X → Type 0) (xs ys : List X) → All P (xs ++ ys) → AllByRecursion P xs
front P [] ys all = tt
front P (x ∷ xs) ys all = (All-head P x (xs ++ ys) all, front P xs ys (All-tail P x (xs ++ ys) all))

-- the events that an act asks for, before others
act_named : (names : Tables) (a : Act) (es : List Event) → HasNames names (act_event a) → AreAllNamed names es
    → AreAllNamed names (asked_by a ++ es)
act_named names (One c) es h all = (record { thread = h.thread; target = h.target; site = h.site }, all)
act_named names (Swap t x site arg) es h all =
    (record { thread = h.thread; target = h.target; site = h.site }, (h, all))

asked_named : (names : Tables) (ls : List ScriptLine) → AllByRecursion (LineNamed names) ls
    → AreAllNamed names (asked ls)
asked_named names [] all = tt
asked_named names (l ∷ ls) all = act_named names l.act (asked ls) all.0 (asked_named names ls all.1)

unread_named : (names : Tables) (es : List Event) → AreAllNamed names (map unread es) → AreAllNamed names es
unread_named names [] all = tt
unread_named names (e ∷ es) all =
    (record { thread = all.0.thread; target = all.0.target; site = all.0.site }, unread_named names es all.1)

-- the events are named where each thread's are
all_named : (names : Tables) (log : List Event) → ((t : ThreadId) → AreAllNamed names (own_events t log))
    → AreAllNamed names log
all_named names [] each = tt
all_named names (e ∷ es) each = (
  first (nat_eq e.thread.0 e.thread.0) (nat_eq_same e.thread.0) (each e.thread),
  all_named names es (λ t. later t (nat_eq e.thread.0 t.0) (each t)),
)
  where
    first : (b : Bool) → b ≡ true
        → AreAllNamed names (cond b (e ∷ own_events e.thread es) (own_events e.thread es)) → HasNames names e
    first true is all = all.0
    first false is all = absurd (cc is)

    later : (t : ThreadId) (b : Bool) → AreAllNamed names (cond b (e ∷ own_events t es) (own_events t es))
        → AreAllNamed names (own_events t es)
    later t true all = all.1
    later t false all = all

own_named : (script : Parsed) → IsScript script → (t : ThreadId) (events : List Event)
    → FollowsFirst events (lines_by t script.lines) → AreAllNamed script.names events
own_named script is t events run =
    let names = script.names in
    let lines : All (LineNamed names) script.lines
    = λ k d lt. is.named k _ (slice_get-get_or script.lines k d lt) in
    let own = All-filter (is_of t.0) (LineNamed names) script.lines lines in
    let some : All (LineNamed names) (run.first ++ run.begins.0)
    = subst (All (LineNamed names)) (sym run.begins.1) own in
    unread_named names events
    (subst (AreAllNamed names) (sym run.follows)
    (asked_named names run.first (front _ run.first run.begins.0 some)))

-- each number of a run of the script has a name
pub run_named : (script : Parsed) (log : List Event) → IsScript script → IsRunOf script.lines log
    → AreNamed script.names log
run_named script log is run j e at =
    let all = All-from_recursion (HasNames script.names) log (all_named script.names log
    (λ t. own_named script is t (own_events t log) (run.first t))) in
    subst (HasNames script.names) (get_or_from_slice_get log j e e at) (all j e (slice_get_within log j e at))

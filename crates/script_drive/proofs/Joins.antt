-- In a run of the script a thread that made all its lines joined those whom they join.
use Rattle.std.proofs.Common.{◌≡◌, List, [], ◌∷◌, Bool, true, false, cond, refl, sym, ap, ◌∙◌, map, ◌⊎◌}
use Rattle.std.proofs.Common.{filter, nat_eq, ◌||◌}
use Rattle.std.specs.List.{list_any}
use Rattle.std.proofs.lemmas.Bool.{or_cases, or_left, or_right}
use mathlib.Core.Logic.{inl, inr}
use Rattle.event_core.specs.declared.ids.ThreadId.{ThreadId}
use Rattle.event_core.specs.declared.events.Act.{Act}
use Rattle.event_core.specs.declared.events.Act.TheVariants.{One, Swap}
use Rattle.event_core.specs.declared.events.Event.{Event}
use Rattle.event_core.specs.declared.events.Op.{Op}
use Rattle.event_core.specs.declared.events.Op.TheVariants.{Join}
use Rattle.event_core.specs.Refusal.{joins, op_joins}
use Rattle.event_core.specs.Steps.{own_events}
use Rattle.event_core.proofs.StepsProperties.{any_back, any_front}
use Rattle.script_text.specs.declared.lines.ScriptLine.{ScriptLine}
use Rattle.script_text.specs.Lines.{act_join, is_thread, joins as line_joins, op_join}
use Rattle.script_drive.specs.Lines.{asked, asked_by, itself, lines_by, through, unread, Follows}
use Rattle.script_drive.specs.Lines.{IsJoinedFrom}
use Rattle.script_drive.specs.Runs.{IsRunOf}

op_asks : (u : ThreadId) (o : Op) → is_thread u.0 (op_join o) ≡ true → op_joins u o ≡ true
op_asks u (Join v) test = test
op_asks u _ test = absurd (cc test)

act_asks : (u : ThreadId) (a : Act) → is_thread u.0 (act_join a) ≡ true
    → list_any (joins u) (asked_by a) ≡ true
act_asks u (One c) test = or_left (op_joins u c.op) false (op_asks u c.op test)
act_asks u (Swap t x site arg) test = absurd (cc test)

-- lines that join the thread ask for an event that does
asked_join : (u : ThreadId) (lines : List ScriptLine) → list_any (line_joins u.0) lines ≡ true
    → list_any (joins u) (asked lines) ≡ true
asked_join u [] test = absurd (cc test)
asked_join u (l ∷ ls) test =
    go (asked_join u ls) (or_cases (line_joins u.0 l) (list_any (line_joins u.0) ls) test)
  where
    go : (list_any (line_joins u.0) ls ≡ true → list_any (joins u) (asked ls) ≡ true)
        → (line_joins u.0 l ≡ true) ⊎ (list_any (line_joins u.0) ls ≡ true)
        → list_any (joins u) (asked (l ∷ ls)) ≡ true
    go later (inl is) = any_front (joins u) (asked_by l.act) (asked ls) (act_asks u l.act is)
    go later (inr is) = any_back (joins u) (asked_by l.act) (asked ls) (later is)

unread_join : (u : ThreadId) (es : List Event) → list_any (joins u) (map unread es) ≡ list_any (joins u) es
unread_join u [] = refl
unread_join u (e ∷ es) = ap (λ (b : Bool). joins u e || b) (unread_join u es)

any_filtered : (p q : Event → Bool) (xs : List Event) → list_any p (filter q xs) ≡ true → list_any p xs ≡ true
any_filtered p q [] h = h
any_filtered p q (x ∷ xs) h = go (q x) (any_filtered p q xs) h
  where
    either : (p x ≡ true) ⊎ (list_any p xs ≡ true) → (p x || list_any p xs) ≡ true
    either (inl is) = or_left (p x) (list_any p xs) is
    either (inr is) = or_right (p x) (list_any p xs) is

    shown : (list_any p (filter q xs) ≡ true → list_any p xs ≡ true)
        → (p x ≡ true) ⊎ (list_any p (filter q xs) ≡ true) → (p x || list_any p xs) ≡ true
    shown later (inl is) = either (inl is)
    shown later (inr is) = either (inr (later is))

    go : (b : Bool) → (list_any p (filter q xs) ≡ true → list_any p xs ≡ true)
        → list_any p (cond b (x ∷ filter q xs) (filter q xs)) ≡ true → (p x || list_any p xs) ≡ true
    go true later h = shown later (or_cases (p x) (list_any p (filter q xs)) h)
    go false later h = either (inr (later h))

-- the log has the join of a thread that a line joins
line_joined : (script : List ScriptLine) (log : List Event) (t u : ThreadId)
    → Follows (own_events t log) (lines_by t script) → list_any (line_joins u.0) (lines_by t script) ≡ true
    → list_any (joins u) log ≡ true
line_joined script log t u made test =
    any_filtered (joins u) (λ (e : Event). nat_eq e.thread.0 t.0) log
    (sym (unread_join u (own_events t log)) ∙ (ap (list_any (joins u)) made
    ∙ asked_join u (lines_by t script) test))

-- so each thread that is joined from it has made all its lines
pub joined_made : (script : List ScriptLine) (log : List Event) → IsRunOf script log → (t u : ThreadId)
    → Follows (own_events t log) (lines_by t script) → IsJoinedFrom script t u
    → Follows (own_events u log) (lines_by u script)
joined_made script log run t u made (itself test) = run.whole u (line_joined script log t u made test)
joined_made script log run t u made (through v test from) =
    joined_made script log run v u (run.whole v (line_joined script log t v made test)) from

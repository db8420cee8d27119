-- The events of a text store nothing but 0, so each is the event that its line's call makes.
use Rattle.std.proofs.Common.{◌≡◌, ℕ, ◌+◌, ◌==◌, List, [], ◌∷◌, ◌++◌, Option, Some, None, Result, Ok, Err}
use Rattle.std.proofs.Common.{length, refl, sym, ◌∙◌, Bool, true, false, cond, if◌then◌else◌}
use Rattle.std.specs.Prelude.{IfOk, IfSome}
use Rattle.std.specs.List.{AllByRecursion}
use Rattle.event_core.specs.declared.events.Event.{Event}
use Rattle.event_core.specs.declared.events.Op.{Op}
use Rattle.event_core.specs.declared.events.Op.TheVariants.{Load}
use Rattle.event_core.specs.declared.ids.VarId.{VarId}
use Rattle.event_core.specs.Refusal.{event_of, value_of, last_value, last_value_from, op_stores}
use Rattle.rapid_line.specs.declared.words.LineFault.{LineFault}
use Rattle.rapid_line.specs.Grammar.{NamedEvent}
use Rattle.rapid_line.specs.Reading.{line_of}
use Rattle.rapid_text.specs.declared.causes.Cause.{Cause}
use Rattle.rapid_text.specs.Tables.{Tables}
use Rattle.rapid_text.specs.Events.{content, named_event, reading, event_or, some_event}
use Rattle.rapid_text.specs.Texts.{judge, after_line}
use Rattle.rapid_text.proofs.NameGrowth.{named_event_is}
use Rattle.trace_report.specs.Findings.{call_of, log_of}

-- events that store nothing but 0
abbrev pub StoreNothing : List Event → Type 0
StoreNothing log = AllByRecursion (λ (e : Event). e.value ≡ 0) log

pub nothing_more : (log : List Event) (e : Event) → StoreNothing log → e.value ≡ 0
    → StoreNothing (log ++ e ∷ [])
nothing_more [] e s z = (z, tt)
nothing_more (x ∷ xs) e s z = (s.0, nothing_more xs e s.1 z)

-- ---- the events of a text

-- no event, or one of value 0
abbrev HasNothing : Result (Option Event × Tables) Cause → Type 0
HasNothing r = IfOk r (λ p. IfSome p.0 (λ e. e.value ≡ 0))

reads_nothing : (t : Tables) (bytes : List ℕ) → HasNothing (reading t bytes)
unfolding reading
reads_nothing t bytes = if_empty (length bytes == 0)
  where
    of_named : (n : NamedEvent) (r : Result (Event × Tables) Cause) → named_event t n ≡ r
        → HasNothing (some_event r)
    of_named n (Ok p) is = (named_event_is t n p.0 p.1 is).value
    of_named n (Err f) is = tt

    of_line : (r : Result NamedEvent LineFault) → HasNothing (event_or t r)
    of_line (Ok n) = of_named n (named_event t n) refl
    of_line (Err f) = tt

    if_empty : (b : Bool) → HasNothing (if b then Ok (None, t) else event_or t (line_of bytes))
    if_empty true = tt
    if_empty false = of_line (line_of bytes)

pub judged_nothing : (ls : List (List ℕ)) (t : Tables) (n : ℕ) → StoreNothing (log_of (judge ls t n).events)
judged_nothing [] t n = tt
judged_nothing (l ∷ ls) t n =
    go (reading t (content l)) (reads_nothing t (content l)) (λ u. judged_nothing ls u (n + 1))
  where
    go : (r : Result (Option Event × Tables) Cause) → HasNothing r
        → ((u : Tables) → StoreNothing (log_of (judge ls u (n + 1)).events))
        → StoreNothing (log_of (after_line t n r (λ u. judge ls u (n + 1))).events)
    go (Ok (None, u)) has later = later u
    go (Ok (Some e, u)) has later = (has, later u)
    go (Err f) has later = tt

-- ---- after a log that stores nothing

last_is_zero : (log : List Event) (n : ℕ) (x : VarId) → n ≡ 0 → StoreNothing log → last_value_from n log x ≡ 0
last_is_zero [] n x z s = z
last_is_zero (e ∷ es) n x z s = last_is_zero es _ x (either (op_stores x e.op)) s.1
  where
    either : (b : Bool) → cond b e.value n ≡ 0
    either true = s.0
    either false = z

value_is_zero : (log : List Event) (o : Op) → StoreNothing log → value_of log o 0 ≡ 0
unfolding last_value
value_is_zero log (Load x) s = last_is_zero log 0 x refl s
value_is_zero log _ s = refl

-- the event of a line is the one that its call makes
pub event_is : (log : List Event) (e : Event) → StoreNothing log → e.value ≡ 0 → event_of log (call_of e) ≡ e
event_is log e s z =
    let v : value_of log e.op 0 ≡ e.value = value_is_zero log e.op s ∙ sym z in
    λ i. record { thread = e.thread; op = e.op; site = e.site; value = v i }

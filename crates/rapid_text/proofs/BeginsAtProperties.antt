-- What is judged from a line on has no event and no fault before it.
use Rattle.std.proofs.Common.{◌≡◌, ℕ, zero, suc, ◌+◌, ◌≤◌, List, [], ◌∷◌, Option, Some, None, Result, Ok, Err}
use Rattle.std.proofs.Common.{refl, sym, subst, arith}
use Rattle.std.specs.Prelude.{slice_get}
use Rattle.std.proofs.lemmas.Option.{same_Some, some_pair_parts}
use Rattle.event_core.specs.declared.events.Event.{Event}
use Rattle.rapid_line.specs.Cut.{content}
use Rattle.rapid_text.specs.declared.causes.Cause.{Cause}
use Rattle.rapid_text.specs.Tables.{Tables}
use Rattle.rapid_text.specs.Events.{reading}
use Rattle.rapid_text.specs.Texts.{Judgement, with_event, after_line, judge, first_line, BeginsAt, FirstAt}

-- each event stands at this line or later, and so does the fault
record From (n : ℕ) (j : Judgement) : Type 0 where
  events : (i m : ℕ) (e : Event) → slice_get j.events i ≡ Some (m, e) → n ≤ m
  fault : (m : ℕ) (c : Cause) → j.fault ≡ Some (m, c) → n ≤ m

from_event : (o : Option Event) (n : ℕ) (j : Judgement) → From n j → From n (with_event n o j)
from_event None n j h = h
from_event (Some d) n j h = record { events = events; fault = h.fault }
  where
    events : (i m : ℕ) (e : Event) → slice_get (with_event n (Some d) j).events i ≡ Some (m, e) → n ≤ m
    events zero m e at = let same = some_pair_parts n m d e at in omega (arith, same.0)
    events (suc i) m e at = h.events i m e at

from_line : (r : Result (Option Event × Tables) Cause) (t : Tables) (n : ℕ) (go : Tables → Judgement)
    → ((u : Tables) → From n (go u)) → From n (after_line t n r go)
from_line (Err f) t n go h = record {
  events = λ i m e at. absurd cc;
  fault = λ m c is. let same = some_pair_parts n m f c is in omega (arith, same.0);
}
from_line (Ok p) t n go h = from_event p.0 n (go p.1) (h p.1)

judge_from : (ls : List (List ℕ)) (t : Tables) (n : ℕ) → From n (judge ls t n)
judge_from [] t n = record { events = λ i m e at. absurd cc; fault = λ m c is. absurd cc }
judge_from (l ∷ ls) t n =
    from_line (reading t (content l)) t n (λ u. judge ls u (n + 1)) (λ u.
    let later = judge_from ls u (n + 1) in
    record {
      events = λ i m e at. omega (arith, later.events i m e at);
      fault = λ m c is. omega (arith, later.fault m c is);
    })

begins_from : (n : ℕ) (names : Tables) (j : Judgement) → BeginsAt n names j → From n j
begins_from n names j b = subst (λ (k : Judgement). From n k) (sym b.same) (judge_from b.lines b.before n)

pub begins_events : (n : ℕ) (names : Tables) (j : Judgement) (i m : ℕ) (e : Event) → BeginsAt n names j
    → slice_get j.events i ≡ Some (m, e) → n ≤ m
begins_events n names j i m e b at = (begins_from n names j b).events i m e at

pub begins_fault : (n : ℕ) (names : Tables) (j : Judgement) (m : ℕ) (c : Cause) → BeginsAt n names j
    → j.fault ≡ Some (m, c) → n ≤ m
begins_fault n names j m c b is = (begins_from n names j b).fault m c is

-- the first line with an event is none before the first
first_among : (n m : ℕ) (es : List (ℕ × Event))
    → ((i k : ℕ) (e : Event) → slice_get es i ≡ Some (k, e) → n ≤ k) → first_line es ≡ Some m → n ≤ m
first_among n m [] h is = absurd cc
first_among n m (e ∷ es) h is =
    let same = same_Some e.0 m is in
    let here = h 0 e.0 e.1 refl in
    omega (arith, same, here)

pub first_from : (ls : List (List ℕ)) (t : Tables) (n m : ℕ) → FirstAt m (judge ls t n) → n ≤ m
first_from ls t n m is = first_among n m (judge ls t n).events (judge_from ls t n).events is

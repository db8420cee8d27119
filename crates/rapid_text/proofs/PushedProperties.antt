-- Pieces that are pushed one after another are judged as one text.
use Rattle.std.proofs.Common.{
  ◌≡◌,
  ℕ,
  List,
  [],
  ◌∷◌,
  ◌++◌,
  drop,
  Option,
  Some,
  None,
  refl,
  sym,
  ap,
  ◌∙◌,
  append_assoc,
  append-nil,
}
use Rattle.std.specs.List.{concat}
use Rattle.event_core.specs.declared.events.Event.{Event}
use Rattle.event_core.specs.Bounds.{Bounds}
use Rattle.rapid_text.specs.declared.causes.TextFault.{TextFault}
use Rattle.rapid_text.specs.Tables.{no_names}
use Rattle.rapid_text.specs.Texts.{Judgement, judgement, with_event, ended, StopsAfter, StopsWith}
use Rattle.rapid_text.specs.Cutting.{Cutting, judged, begun, Stops, Closes, Closed}
use Rattle.rapid_text.specs.Pushing.{answered, Pushed, with_events}
use Rattle.rapid_text.specs.Pushing.Pushed.{all_pushed, used_up, pushed}

answered_first : (line : ℕ) (event : Option Event) (events : List (ℕ × Event)) (j : Judgement)
    → with_event line event (with_events events j) ≡ with_events (answered line event ++ events) j
answered_first line None events j = refl
answered_first line (Some e) events j = refl

-- of the pieces and what follows them the rest is still to be judged, after the events that were answered
pub pushed_text : (s t : Cutting) (pieces : List (List ℕ)) (events : List (ℕ × Event))
    → Pushed s pieces events t → (more : List ℕ)
    → judged s (concat pieces ++ more) ≡ with_events events (judged t more)
pushed_text s t _ _ all_pushed more = refl
pushed_text s t _ _ (used_up rest) more = pushed_text s t _ _ rest more
pushed_text s t _ _ (pushed {m = m} {piece = w} {pieces = ps} {events = es} {used = n} {event = e} p q) more =
    let after = drop n w in
    ap (λ (x : List ℕ). judged s x) (append_assoc w (concat ps) more)
    ∙ p.sound (concat ps ++ more)
    ∙ ap (λ (x : List ℕ). with_event m.line e (judged m x)) (sym (append_assoc after (concat ps) more))
    ∙ ap (λ (j : Judgement). with_event m.line e j) (pushed_text m t (after ∷ ps) es q more)
    ∙ answered_first m.line e es (judged t more)

answered_last : (events : List (ℕ × Event)) (t : Cutting) (event : Option Event)
    → with_events events (with_event t.line event (ended t.names))
    ≡ record { events = events ++ answered t.line event; fault = None; names = t.names }
answered_last events t None = refl
answered_last events t (Some e) = refl

-- the whole text, with nothing after it
whole : (limits : Bounds) (last : Cutting) (pieces : List (List ℕ)) (events : List (ℕ × Event))
    → Pushed (begun limits) pieces events last
    → judgement (no_names limits) (concat pieces) ≡ with_events events (judged last [])
whole limits last pieces events p =
    ap (λ (x : List ℕ). judgement (no_names limits) x) (sym (append-nil (concat pieces)))
    ∙ pushed_text (begun limits) last pieces events p []

pub joined_ends : (limits : Bounds) (pieces : List (List ℕ)) (events : List (ℕ × Event)) (last end : Cutting)
    (event : Option Event) → Pushed (begun limits) pieces events last → Closes last end event
    → judgement (no_names limits) (concat pieces)
    ≡ record { events = events ++ answered end.line event; fault = None; names = end.names }
joined_ends limits pieces events last end event p z =
    whole limits last pieces events p ∙ ap (λ (j : Judgement). with_events events j) z.sound
    ∙ answered_last events end event

-- a text that goes on as one which stops at once stops after the events that were answered
stopped_after : (events : List (ℕ × Event)) (f : TextFault) (j k : Judgement) → j ≡ with_events events k
    → StopsWith f k → StopsAfter events f j
stopped_after events f j k is h = (
  ap (λ (x : Judgement). x.events) is ∙ ap (λ (es : List (ℕ × Event)). events ++ es) h.0
      ∙ append-nil events,
  ap (λ (x : Judgement). x.fault) is ∙ h.1,
)

pub joined_stops : (limits : Bounds) (pieces : List (List ℕ)) (events : List (ℕ × Event)) (last : Cutting)
    (piece : List ℕ) (f : TextFault) → Pushed (begun limits) pieces events last → Stops last piece f
    → (more : List ℕ) → StopsAfter events f (judgement (no_names limits) (concat pieces ++ (piece ++ more)))
joined_stops limits pieces events last piece f p h more =
    stopped_after events f (judgement (no_names limits) (concat pieces ++ (piece ++ more)))
    (judged last (piece ++ more)) (pushed_text (begun limits) last pieces events p (piece ++ more)) (h more)

pub joined_closes : (limits : Bounds) (pieces : List (List ℕ)) (events : List (ℕ × Event)) (last : Cutting)
    (f : TextFault) → Pushed (begun limits) pieces events last → Closed last f
    → StopsAfter events f (judgement (no_names limits) (concat pieces))
joined_closes limits pieces events last f p h =
    stopped_after events f (judgement (no_names limits) (concat pieces)) (judged last [])
    (whole limits last pieces events p) h

-- The numbers of the empty log stand for it.
use Rattle.std.proofs.Common.{◌≡◌, ℕ, List, [], Some, refl, arith, true, false, slice_get}
use Rattle.wcp_laws.specs.Standing.{StandsFor}
use Rattle.wcp_laws.specs.State.{empty}
use Rattle.event_core.specs.declared.events.Event.{Event}
use Rattle.event_core.specs.Closed.{Others}
use Rattle.event_core.specs.Count.{events_of, Past, LockPast}
use Rattle.event_core.specs.Log.{depth}
use Rattle.event_core.specs.Order.{Hb}
use Rattle.event_core.specs.Rows.{no_clock, Counted}
use Rattle.event_core.specs.Wcp.{Strict}
use Rattle.event_core.proofs.HasProperties.{none_in}

no_events : List Event
no_events = []

nothing : (i : ℕ) (e : Event) → slice_get no_events i ≡ Some e → ⊥
unfolding no_events
nothing i e h = cc

counted : (P : ℕ → Type 0) → Counted [] P no_clock
unfolding no_events
counted P u = record { within = omega arith; first = λ i o. absurd (nothing i o.event o.at) }

-- the numbers of the empty log stand for it
pub empty_stands : StandsFor [] empty
unfolding events_of depth no_events
empty_stands = record {
  hb = record { thread = λ t. counted (Past [] (Hb []) t); lock = λ l. counted (LockPast [] (Hb []) l) };
  strict = record {
    thread = λ t. counted (Past [] (Strict []) t);
    lock = λ l. counted (LockPast [] (Strict []) l);
  };
  own = λ t. refl;
  depths = λ t l. refl;
  opened = λ t l a p. absurd (nothing a p.opened.does.event p.opened.does.at);
  held = λ t l. (λ h. absurd (none_in h), λ lt. absurd (omega arith));
  noted =
      λ t l x k. (
        λ h. absurd (let g : false ≡ true = h in cc),
        λ n. absurd (nothing n.access n.does.event n.does.at),
      );
  others = λ l x k t. counted (Others [] l x k t);
  closed =
      λ l. record {
        sound = λ q h. absurd (none_in h);
        complete = λ u a r x. absurd (nothing r x.closed.does.event x.closed.does.at);
      };
}

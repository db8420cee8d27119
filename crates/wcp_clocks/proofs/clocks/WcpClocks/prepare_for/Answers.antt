use Rattle.wcp_clocks.proofs.GrownForProperties.{all_grown, grown_parts, seen_ready, seen_numbers}
use Rattle.wcp_clocks.proofs.GrownForProperties.{clocks_same}
use Rattle.wcp_clocks.specs.Parts.{parts_of}
use Rattle.wcp_clocks.proofs.clocks.WcpClocks.prepare_for.Goals as goal

pub invariant_of-self : goal.invariant_of-self
invariant_of-self c =
    let more = c.prepare_places.ensures in
    grown_parts (all_grown (clocks_same _ _) more.sums more.queues more.held) c.self.invariant

pub returns-then-ready-clause-same : goal.returns-then-ready-clause-same
returns-then-ready-clause-same c =
    let more = c.prepare_places.ensures in
    seen_numbers c.self.view_is (all_grown (clocks_same _ _) more.sums more.queues more.held)

pub returns-then-ready-clause-kept : goal.returns-then-ready-clause-kept
returns-then-ready-clause-kept c =
    let more = c.prepare_places.ensures in
    seen_ready c.self.view_is (all_grown (clocks_same _ _) more.sums more.queues more.held)

pub returns-then-ready-clause-again : goal.returns-then-ready-clause-again
returns-then-ready-clause-again c = rw (← c.self.view_is) (λ ready.
    let more = c.prepare_places.ensures in
    let places = more.again ready.places in (
      places.0,
      λ i. parts_of c.self.inside.hb c.self.inside.rows (places.1 i) (places.2 i) (places.3 i)
          c.self.inside.work,
    ))

pub returns-then-ready-clause-grown : goal.returns-then-ready-clause-grown
returns-then-ready-clause-grown c =
    let more = c.prepare_places.ensures in
    rw (← c.self.view_is) (record {
      accesses = more.accesses;
      locks = more.locks;
      sections = more.sections;
      holds = more.holds;
    })

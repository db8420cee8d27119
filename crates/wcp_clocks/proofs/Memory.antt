-- A step takes no memory, since none of its parts does.
use Rattle.std.proofs.Common.{ℕ, Bool, true, false, cond, nat_eq, List, refl, ◌∙◌}
use Rattle.event_core.specs.declared.events.Op.{Op}
use Rattle.event_core.specs.declared.events.Op.TheVariants.{Acquire, Release}
use Rattle.event_core.specs.Effect.{Opens, Inner, effect_of}
use Rattle.hb_clocks.specs.Tables.{SameRows}
use Rattle.section_sum.specs.Sums.{Sums, SameMemory as SameSums}
use Rattle.lock_queues.specs.Queues.{AllQueues as Queues, SameMemory as SameQueues, SamePlaces as SameTables}
use Rattle.wcp_clocks.specs.Growth.{IsClosing, KeepsMemory}
use Rattle.wcp_clocks.specs.HeldLists.{HeldList, SamePlaces}
use Rattle.wcp_clocks.specs.Parts.{Parts, IsRelease}
use Rattle.wcp_clocks.proofs.RowsKept.{room_same, room_then}

-- a part that stays
pub sums_stay : (s : Sums) → SameSums s s
sums_stay s = record { cells = refl; locks = refl }

pub queues_stay : (q : Queues) → SameQueues q q
queues_stay q = record {
  places = record { queues = refl; queue_room = refl; places = λ l. refl };
  numbers = refl;
}

pub held_stay : (held : List HeldList) → SamePlaces held held
held_stay held = record { lists = refl; places = λ t. refl }

pub tables_then : {a b c : Queues} → SameTables a b → SameTables b c → SameTables a c
tables_then p q = record {
  queues = q.queues ∙ p.queues;
  queue_room = q.queue_room ∙ p.queue_room;
  places = λ l. q.places l ∙ p.places l;
}

-- a release alone closes a section
pub closing_releases : (d : ℕ → ℕ) (o : Op) → IsClosing (effect_of d o) → IsRelease o
closing_releases d (Acquire l) closes = opens (nat_eq (d l.0) 0) closes
  where
    opens : (b : Bool) → IsClosing (cond b (Opens l) Inner) → ⊥
    opens true closes = closes
    opens false closes = closes
closing_releases d (Release l) closes = tt
closing_releases d _ closes = closes

pub keeps_weaker : {C R : Type 0} {old new : Parts} → (C → R) → KeepsMemory C old new
    → KeepsMemory R old new
keeps_weaker implies keeps = record {
  order = keeps.order;
  rows = keeps.rows;
  sums = keeps.sums;
  queues = keeps.queues;
  numbers = λ none. keeps.numbers (λ closes. none (implies closes));
  held = keeps.held;
}

pub memory_stays : {C : Type 0} (p : Parts) → KeepsMemory C p p
memory_stays p = record {
  order = record {
    po = record { count = refl; widths = refl };
    hb = record { count = refl; widths = refl };
    lock = record { count = refl; widths = refl };
    holds = refl;
    thread_room = refl;
    lock_room = refl;
  };
  rows = room_same p.rows;
  sums = sums_stay p.sums;
  queues = (queues_stay p.queues).places;
  numbers = λ none. refl;
  held = held_stay p.held;
}

rows_then : {a b c : List (List ℕ)} → SameRows a b → SameRows b c → SameRows a c
rows_then p q = record { count = q.count ∙ p.count; widths = q.widths ∙ p.widths }

pub memory_then : {C : Type 0} {a b c : Parts} → KeepsMemory C a b → KeepsMemory C b c → KeepsMemory C a c
memory_then p q = record {
  order = record {
    po = rows_then p.order.po q.order.po;
    hb = rows_then p.order.hb q.order.hb;
    lock = rows_then p.order.lock q.order.lock;
    holds = q.order.holds ∙ p.order.holds;
    thread_room = q.order.thread_room ∙ p.order.thread_room;
    lock_room = q.order.lock_room ∙ p.order.lock_room;
  };
  rows = room_then p.rows q.rows;
  sums = record { cells = q.sums.cells ∙ p.sums.cells; locks = q.sums.locks ∙ p.sums.locks };
  queues = tables_then p.queues q.queues;
  numbers = λ none. q.numbers none ∙ p.numbers none;
  held = record { lists = q.held.lists ∙ p.held.lists; places = λ t. q.held.places t ∙ p.held.places t };
}

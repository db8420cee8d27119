-- What the tables mean where a queue has other slots, or more memory.
use Rattle.std.proofs.Common.{◌≡◌, ℕ, ◌+◌, ◌<◌, ◌≤◌, Bool, true, List, length, get_or, set, refl, ap, ◌∙◌}
use Rattle.std.proofs.Common.{arith, length-set}
use Rattle.std.proofs.lemmas.List.{get_or_read}
use Rattle.std.specs.Prelude.{◌*◌, max, slice_index}
use Rattle.event_core.specs.Bounds.{Bounds}
use Rattle.event_core.specs.Rows.{with_row}
use Rattle.lock_queues.specs.Sections.{sections_of}
use Rattle.lock_queues.specs.Slots.{has_slot, opened_in}
use Rattle.lock_queues.specs.Queue.{OneQueue, queue_at, no_queue, AreAlike, places_for}
use Rattle.lock_queues.specs.Queue.{SameMeaning as SameQueue}
use Rattle.lock_queues.specs.Queues.{SameMeaning, GrownFor, SamePlaces, count_slots}
use Rattle.lock_queues.proofs.QueueAtProperties.{at_same, at_other, lifted_same, lifted_cell}
use Rattle.lock_queues.proofs.SearchedProperties.{tables}

-- the queues rs hold what qs hold, and x is that of the lock
pub record Found (qs rs : List OneQueue) (l : ℕ) (x : OneQueue) : Type 0 where
  pub alike : AreAlike qs rs
  pub within : l < length rs
  pub is : x ≡ queue_at rs l

-- the queue that a read gives is alike to the old one
pub found_at : {qs rs : List OneQueue} {x : OneQueue} (l : ℕ) → AreAlike qs rs → l < length rs
    → x ≡ get_or rs l x → Found qs rs l x
found_at {rs = rs} {x = x} l alike lt read =
    record { alike = alike; within = lt; is = get_or_read rs l x lt read no_queue }

module _ {qs rs : List OneQueue} {l : ℕ} {x : OneQueue} (q : OneQueue) (f : Found qs rs l x) where
  -- q is put in its place, with a slot more
  pub slot_made : (t : ℕ) → has_slot q.slots ≡ with_row t true (has_slot x.slots)
      → (λ u m. has_slot (queue_at (set rs l q) m).slots u)
      ≡ with_row t (with_row l true (λ m. has_slot (queue_at qs m).slots t))
      (λ u m. has_slot (queue_at qs m).slots u)
  slot_made t made =
      lifted_cell (λ (y : OneQueue). has_slot y.slots) rs t l q true f.within
      (made ∙ ap (λ (y : OneQueue). with_row t true (has_slot y.slots)) f.is)
      ∙ (λ i. with_row t (with_row l true (λ m. has_slot ((f.alike m).1 i) t))
      (λ u m. has_slot ((f.alike m).1 i) u))

  -- or with the same slots
  pub slots_same : q.slots ≡ x.slots
      → ◌≡◌ {A = ℕ → ℕ → Bool} (λ u m. has_slot (queue_at (set rs l q) m).slots u)
      (λ u m. has_slot (queue_at qs m).slots u)
  slots_same same =
      (λ i u m. lifted_same (λ (y : OneQueue). has_slot y.slots) rs l q f.within
      (ap has_slot same ∙ ap (λ (y : OneQueue). has_slot y.slots) f.is) i m u)
      ∙ (λ i u m. has_slot ((f.alike m).1 i) u)

module _ {qs rs : List OneQueue} {l : ℕ} {x : OneQueue} (q : OneQueue) (f : Found qs rs l x) (b : Bounds)
    {ns ms : List ℕ} {r n r' n' : ℕ} where
  -- what it means is the same where q means what x does
  pub same_tables : ms ≡ ns → SameQueue x q → SameMeaning (tables b qs ns r n)
      (tables b (set rs l q) ms r' n')
  same_tables numbers same = record {
    closed = lifted_same (λ (y : OneQueue). sections_of ms y.entries) rs l q f.within
        (ap (sections_of ms) (same.entries ∙ ap (λ (y : OneQueue). y.entries) f.is))
        ∙ (λ i m. sections_of (numbers i) ((f.alike m).0 i));
    opened = (λ i u m. lifted_same (λ (y : OneQueue). opened_in y.slots) rs l q f.within
        (same.opened ∙ ap (λ (y : OneQueue). opened_in y.slots) f.is) i m u)
        ∙ (λ i u m. opened_in ((f.alike m).1 i) u);
    found = lifted_same (λ (y : OneQueue). slice_index y.found) rs l q f.within
        (same.found ∙ ap (λ (y : OneQueue). slice_index y.found) f.is)
        ∙ (λ i m. slice_index ((f.alike m).2 i));
    limits = refl;
  }

  -- there are no more queues than up to the lock, and no more numbers of q than up to the thread
  pub grown_tables : (t : ℕ) → ms ≡ ns → length rs ≤ max (length qs) (l + 1)
      → length q.found ≤ max (length x.found) (t + 1) → r' ≤ max r (2 * (l + 1))
      → n' ≤ max n (2 * (length ns + (count_slots qs + 1) * b.threads))
      → q.reserved ≤ max x.reserved (2 * places_for x t)
      → GrownFor (tables b qs ns r n) (tables b (set rs l q) ms r' n') t l
  grown_tables t numbers most few fit numbers_fit places = record {
    queues = omega (arith, most, length-set rs l q);
    found = omega (
      arith,
      few,
      ap (λ (y : OneQueue). length y.found) (at_same rs l l q f.within refl),
      ap (λ (y : OneQueue). length y.found) f.is,
      ap length (f.alike l).2,
    );
    others = λ m away. ap (λ (y : OneQueue). y.found) (at_other rs l m q away) ∙ (f.alike m).2;
    numbers = numbers;
    queue_room = fit;
    number_room = numbers_fit;
    places = omega (
      arith,
      places,
      ap (λ (y : OneQueue). y.reserved) (at_same rs l l q f.within refl),
      ap (λ (y : OneQueue). y.reserved) f.is,
      ap (λ (y : OneQueue). length y.entries) f.is,
      ap (λ (y : OneQueue). length y.slots) f.is,
      ap length (f.alike l).0,
      ap length (f.alike l).1,
      (f.alike l).3,
    );
    other_places = λ m away. ap (λ (y : OneQueue). y.reserved) (at_other rs l m q away) ∙ (f.alike m).3;
  }

-- the same where there are further queues alone
pub grown_queues : (b : Bounds) {qs rs : List OneQueue} {ns ms : List ℕ} {r n r' n' : ℕ} (t l : ℕ)
    → AreAlike qs rs → ms ≡ ns → length rs ≤ max (length qs) (l + 1) → r' ≤ max r (2 * (l + 1))
    → n' ≤ max n (2 * (length ns + (count_slots qs + 1) * b.threads))
    → GrownFor (tables b qs ns r n) (tables b rs ms r' n') t l
grown_queues b t l alike numbers most fit numbers_fit = record {
  queues = most;
  found = omega (arith, ap length (alike l).2);
  others = λ m away. (alike m).2;
  numbers = numbers;
  queue_room = fit;
  number_room = numbers_fit;
  places = omega (arith, (alike l).3);
  other_places = λ m away. (alike m).3;
}

-- the tables have the memory that they had, where the queue that is put in place of another has its memory
pub places_set : (b : Bounds) (qs : List OneQueue) {ns ms : List ℕ} {r m n : ℕ} (l : ℕ) (q : OneQueue)
    → l < length qs → q.reserved ≡ (queue_at qs l).reserved
    → SamePlaces (tables b qs ns r m) (tables b (set qs l q) ms r n)
places_set b qs l q lt same = record {
  queues = length-set qs l q;
  queue_room = refl;
  places = λ k. ap (λ (f : ℕ → ℕ). f k) (lifted_same (λ (x : OneQueue). x.reserved) qs l q lt same);
}

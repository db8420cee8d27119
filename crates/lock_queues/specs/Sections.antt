-- The closed sections of one lock, as they are kept and as clocks see them.
use Rattle.std.specs.Prelude.{ℕ, ◌≡◌, ◌≤◌, ◌<◌, List, [], ◌∷◌, ◌++◌, length, map}
use Rattle.std.specs.Prelude.{slice_index_or, Option, Some, None, cond}
use Rattle.std.specs.Option.{option_or}
use Rattle.std.specs.Simd.Lanes.{zip2}
use Rattle.event_core.specs.Closed.{Closed, is_counted}
use Rattle.hb_clocks.specs.Counts.{counts_of}
use Rattle.hb_clocks.specs.Marks.{MarkedEvent, Covers, no_mark}
use Rattle.hb_clocks.specs.Releases.{Place, numbers_at, raised, IsReadable, IsAdded}
use Rattle.lock_queues.specs.declared.sections.Entry.{Entry}

abbrev pub no_closed : Closed
no_closed = record { thread = 0; position = 0; release = counts_of [] }

abbrev pub closed_at : List Closed → ℕ → Closed
closed_at qs k = slice_index_or qs k no_closed

-- later releases have higher clocks
abbrev pub AreRising : List Closed → Type 0
AreRising qs =
    (k m u : ℕ) → k ≤ m → m < length qs → (closed_at qs k).release u ≤ (closed_at qs m).release u

-- the latest section whose acquire the clock counts
abbrev pub latest_counted : (ℕ → ℕ) → List Closed → Option Closed
latest_counted c [] = None
latest_counted c (q ∷ qs) = option_or (latest_counted c qs) (cond (is_counted c q) (Some q) None)

-- the section that the entry names, whose numbers stand among those of all sections: those just before its
-- release are kept
abbrev pub section_of : List ℕ → Entry → Closed
section_of numbers e = record {
  thread = e.acquire.thread;
  position = e.acquire.position;
  release = counts_of (raised e.acquire.thread (numbers_at numbers e.place));
}

abbrev pub sections_of : List ℕ → List Entry → List Closed
sections_of numbers entries = map (section_of numbers) entries

abbrev pub no_entry : Entry
no_entry = record { acquire = no_mark; place = record { width = 0; start = 0 } }

abbrev pub entry_at : List Entry → ℕ → Entry
entry_at entries k = slice_index_or entries k no_entry

-- the marks of their acquires
abbrev pub acquires_of : List Entry → List MarkedEvent
acquires_of entries = map (λ e. e.acquire) entries

-- the entries of such marks and places
abbrev pub entries_of : List MarkedEvent → List Place → List Entry
entries_of marks places = zip2 (λ m p. record { acquire = m; place = p }) marks places

-- closed sections, for how many there is memory, and for how many none of their lists has more
pub record Listed : Type 0 where
  pub entries : List Entry
  pub most : ℕ
  pub reserved : ℕ

-- their numbers are there
abbrev pub AreReadable : List ℕ → List Entry → Type 0
AreReadable numbers entries =
    (k : ℕ) → k < length entries → IsReadable numbers (entry_at entries k).place

-- the clock counts the acquire of the entry at the place
abbrev pub CoversEntry : List Entry → List ℕ → ℕ → Type 0
CoversEntry entries clock k = Covers clock (entry_at entries k).acquire

-- one section more, by the thread from the position of its acquire to the release with the clock: its numbers
-- come after those of all others, and are no more than the width
pub record HasJoined (old_numbers new_numbers : List ℕ) (old new : List Entry) (by position width : ℕ)
    (clock : ℕ → ℕ) : Type 0 where
  pub entry : Entry
  pub entries : new ≡ old ++ entry ∷ []
  pub thread : entry.acquire.thread ≡ by
  pub acquired : entry.acquire.position ≡ position
  pub kept : IsAdded old_numbers new_numbers by entry.place width clock

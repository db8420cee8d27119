-- What is kept of a variable under a lock.
use Rattle.std.specs.Prelude.{ℕ, Bool, true, false, ◌||◌, ◌++◌, List, cond, slice_index_or}
use Rattle.section_sum.specs.Newest.{no_sections, closed_two, others_at, section}
use Rattle.section_sum.specs.declared.cell.Cell.{Cell}
use Rattle.section_sum.specs.declared.cell.Side.{Side}
use Rattle.event_core.specs.declared.events.AccessKind.{AccessKind}
use Rattle.event_core.specs.declared.events.AccessKind.TheVariants.{Read, Write}

abbrev pub no_side : Side
no_side = record { noted = false; newest = no_sections }

abbrev pub no_cell : Cell
no_cell = record { reads = no_side; writes = no_side }

-- past the end is no access
abbrev pub cell_at : List Cell → ℕ → Cell
cell_at cells i = slice_index_or cells i no_cell

abbrev pub side : AccessKind → Cell → Side
side Read c = c.reads
side Write c = c.writes

abbrev pub is_kind : AccessKind → AccessKind → Bool
is_kind Read Read = true
is_kind Read Write = false
is_kind Write Read = false
is_kind Write Write = true

abbrev pub is_noted : Cell → Bool
is_noted c = c.reads.noted || c.writes.noted

-- after the end of the thread's section with the number
abbrev pub closed_side : ℕ → ℕ → Side → Side
closed_side t n s = record { noted = false; newest = cond s.noted (closed_two t n s.newest) s.newest }

abbrev pub closed : ℕ → ℕ → Cell → Cell
closed t n c = record { reads = closed_side t n c.reads; writes = closed_side t n c.writes }

abbrev pub closed_as : Bool → ℕ → ℕ → Cell → Cell
closed_as b t n c = cond b (closed t n c) c

abbrev pub marked_side : Side → Side
marked_side s = record { noted = true; newest = s.newest }

abbrev pub marked : AccessKind → Cell → Cell
marked Read c = record { reads = marked_side c.reads; writes = c.writes }
marked Write c = record { reads = c.reads; writes = marked_side c.writes }

abbrev pub marked_as : Bool → AccessKind → Cell → Cell
marked_as b k c = cond b (marked k c) c

-- the sections that an access of the kind meets: a load meets that with a store, and a store both
abbrev pub sources_in : Cell → AccessKind → ℕ → List ℕ
sources_in c Read t = section (others_at c.writes.newest t)
sources_in c Write t = section (others_at c.writes.newest t) ++ section (others_at c.reads.newest t)

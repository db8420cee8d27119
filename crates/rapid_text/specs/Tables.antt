-- The names of a text, in four spaces: threads, locks, variables and locations.
use Rattle.std.specs.Prelude.{◌≡◌, ℕ, List, [], slice_get, Option, Some, None, unwrap_or}
use Rattle.event_core.specs.Bounds.{Bounds}
use Rattle.rapid_text.specs.declared.causes.Kind.{Kind}
use Rattle.rapid_text.specs.declared.causes.Kind.TheVariants as kinds
use Rattle.rapid_line.specs.Grammar.{IsField, IsName}
use Rattle.rapid_text.specs.Numbers.{Numbered, number_of, Grows}

-- the names of the four kinds
pub record Tables : Type 0 where
  pub threads : Numbered
  pub locks : Numbered
  pub variables : Numbered
  pub sites : Numbered

-- no names, and how many there may be
abbrev pub none_of : ℕ → Numbered
none_of limit = record { limit = limit; names = [] }

-- the limits are the monitor's; locations have numbers below 4,294,967,295
abbrev pub no_names : Bounds → Tables
no_names l = record {
  threads = none_of l.threads;
  locks = none_of l.locks;
  variables = none_of l.vars;
  sites = none_of 4294967295;
}

-- the names of a kind
abbrev pub space : Tables → Kind → Numbered
space t kinds.Thread = t.threads
space t kinds.Lock = t.locks
space t kinds.Variable = t.variables
space t kinds.Site = t.sites

abbrev pub with_space : Tables → Kind → Numbered → Tables
with_space t kinds.Thread s = record t { threads = s }
with_space t kinds.Lock s = record t { locks = s }
with_space t kinds.Variable s = record t { variables = s }
with_space t kinds.Site s = record t { sites = s }

abbrev pub put_back : Tables → Kind → Option (ℕ × Numbered) → Option (ℕ × Tables)
put_back t kind None = None
put_back t kind (Some p) = Some (p.0, with_space t kind p.1)

-- the number of a name of this kind, and the names after it; none, where the name is new and there are as
-- many of its kind as the limit
unfoldable pub number_in : Tables → Kind → List ℕ → Option (ℕ × Tables)
number_in t kind name = put_back t kind (number_of (space t kind) name)

-- the bytes may name a thing of this kind: a location may be empty
abbrev pub IsNameOf : Kind → List ℕ → Type 0
IsNameOf kinds.Site bytes = IsField bytes
IsNameOf kind bytes = IsName bytes

-- the name of this kind with this number
abbrev pub name_at : Tables → Kind → ℕ → List ℕ
name_at t kind n = unwrap_or (slice_get (space t kind).names n) []

-- names were added at the end of each kind
abbrev pub TablesGrow : Tables → Tables → Type 0
TablesGrow old new = (kind : Kind) → Grows (space old kind) (space new kind)

-- each of them is a name of the kind
abbrev pub AreNamesOf : Kind → List (List ℕ) → Type 0
AreNamesOf kind names = (i : ℕ) (name : List ℕ) → slice_get names i ≡ Some name → IsNameOf kind name

-- what stands in the tables are names of their kinds
abbrev pub AreNamed : Tables → Type 0
AreNamed t = (kind : Kind) → AreNamesOf kind (space t kind).names

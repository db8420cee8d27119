-- The names that lists give, and why lists give none.
use Rattle.std.specs.Prelude.{◌≡◌, ℕ, ◌<◌, ◌≤◌, List, [], length, map, slice_get, Some}
use Rattle.rapid_text.specs.declared.causes.Kind.{Kind}
use Rattle.rapid_text.specs.declared.causes.Kind.TheVariants as kinds
use Rattle.rapid_text.specs.Numbers.{Numbered, with_name}
use Rattle.rapid_text.specs.Tables.{Tables, IsNameOf, space, with_space}
use Rattle.closed_report.specs.declared.name_lists.NameLists.{NameLists}
use Rattle.closed_report.specs.declared.name_lists.NamingFault.{NamingFault}
use Rattle.closed_report.specs.declared.name_lists.NamingFault.TheVariants.{NoName, Twice}
use Rattle.closed_report.specs.declared.name_lists.NamingFault.TheVariants.{TooMany, OutOfMemory}

-- the names in the list of a kind
abbrev pub listed : NameLists → Kind → List (List ℕ)
listed l kinds.Thread = map (λ name. name.now) l.threads.now
listed l kinds.Lock = map (λ name. name.now) l.locks.now
listed l kinds.Variable = map (λ name. name.now) l.variables.now
listed l kinds.Site = map (λ name. name.now) l.sites.now

-- the names of a kind: that at place i of the list is the name of number i
abbrev pub numbered : ℕ → List (List ℕ) → Numbered
numbered limit names = record { limit = limit; names = names }

-- the names that the lists give; there may be as many as before
abbrev pub names_in : Tables → NameLists → Tables
names_in t l = record {
  threads = numbered t.threads.limit (listed l kinds.Thread);
  locks = numbered t.locks.limit (listed l kinds.Lock);
  variables = numbered t.variables.limit (listed l kinds.Variable);
  sites = numbered t.sites.limit (listed l kinds.Site);
}

-- there are no names yet
pub record AreNone (t : Tables) : Type 0 where
  pub threads : t.threads.names ≡ []
  pub locks : t.locks.names ≡ []
  pub variables : t.variables.names ≡ []
  pub sites : t.sites.names ≡ []

-- why a name of the kind does not get the next number
abbrev pub IsFaultAt : Numbered → Kind → List ℕ → NamingFault → Type 0
IsFaultAt s kind name (NoName k n) = (k ≡ kind) × (n ≡ length s.names) × (IsNameOf kind name → ⊥)
IsFaultAt s kind name (Twice k n) = (k ≡ kind) × (n ≡ length s.names)
    × ((i : ℕ) × (i < n) × (slice_get s.names i ≡ Some name))
IsFaultAt s kind name (TooMany k) = (k ≡ kind) × (s.limit ≤ length s.names)
IsFaultAt s kind name OutOfMemory = Unit {0}

-- a text at its number
abbrev pub IsAt : List (List ℕ) → ℕ → List ℕ → Type 0
IsAt names n name = slice_get names n ≡ Some name

-- why the names of a kind, of which there may be so many, do not get the numbers from 0 on
abbrev pub IsFaultIn : ℕ → Kind → List (List ℕ) → NamingFault → Type 0
IsFaultIn limit kind names (NoName k n) =
    (k ≡ kind) × ((name : List ℕ) × IsAt names n name × (IsNameOf kind name → ⊥))
IsFaultIn limit kind names (Twice k n) =
    (k ≡ kind) × ((name : List ℕ) × (i : ℕ) × (i < n) × IsAt names i name × IsAt names n name)
IsFaultIn limit kind names (TooMany k) = (k ≡ kind) × (limit < length names)
IsFaultIn limit kind names OutOfMemory = Unit {0}

-- a fault of one of the lists; memory may run out at any time
abbrev pub IsFaultOf : Tables → NameLists → NamingFault → Type 0
IsFaultOf t l f = (kind : Kind) × IsFaultIn (space t kind).limit kind (listed l kind) f

-- the name is added, under the next number of its kind
abbrev pub IsNext : Tables → Kind → List ℕ → ℕ → Tables → Type 0
IsNext t kind name n u =
    (n ≡ length (space t kind).names) × (u ≡ with_space t kind (with_name (space t kind) name))

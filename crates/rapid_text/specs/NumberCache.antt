-- What entries say of names.
use Rattle.std.specs.Prelude.{◌≡◌, ℕ, ◌<◌, ◌≤◌, ◌-◌, ◌/◌, List, [], ◌∷◌, length, slice_get, slice_index, Some}
use Rattle.std.specs.Prelude.{if◌then◌else◌, nat_lt, take, drop}
use Rattle.std.specs.Int.{to_le_bytes, w64}
use Rattle.rapid_text.specs.declared.number_cache.Entry.{Entry}
use Rattle.rapid_text.specs.declared.number_cache.Words.{Words}

-- the bytes at the ends of a name of so many bytes: the first four and the last four, and of fewer than four
-- the first, the middle and the last
abbrev pub ends_among : ℕ → List ℕ → List ℕ
ends_among n name =
    if nat_lt n 4
    then slice_index name 0 ∷ slice_index name (n / 2) ∷ slice_index name (n - 1) ∷ 0 ∷ 0 ∷ 0 ∷ 0 ∷ 0 ∷ []
    else slice_index name 0 ∷ slice_index name 1 ∷ slice_index name 2 ∷ slice_index name 3
    ∷ slice_index name (n - 4) ∷ slice_index name (n - 3)
    ∷ slice_index name (n - 2) ∷ slice_index name (n - 1) ∷ []

abbrev pub ends_of : List ℕ → List ℕ
ends_of name = ends_among (length name) name

-- the words tell the name: of up to eight bytes the first has the ends, and else the two have the first eight
-- bytes and the last eight
pub record Tell (words : Words) (name : List ℕ) : Type 0 where
  pub few : length name ≤ 8 → to_le_bytes w64 words.first ≡ ends_of name
  pub first : 8 < length name → to_le_bytes w64 words.first ≡ take 8 name
  pub last : 8 < length name → to_le_bytes w64 words.last ≡ drop (length name - 8) name

-- the entry is one of the list
abbrev pub IsOneOf : List Entry → Entry → Type 0
IsOneOf entries entry = (i : ℕ) × (slice_get entries i ≡ Some entry)

-- the entry holds no name
abbrev pub HoldsNone : Entry → Type 0
HoldsNone entry = entry.length ≡ 0

-- the entry has the length and the words of the short name
pub record Holds (name : List ℕ) (entry : Entry) : Type 0 where
  pub length_is : entry.length ≡ length name
  pub some : 0 < length name
  pub short : length name ≤ 16
  pub words_tell : Tell entry.words name

-- the entry is of the name with the number
pub record IsEntryOf (number : ℕ) (name : List ℕ) (entry : Entry) : Type 0 where
  pub number_is : entry.number ≡ number
  pub held : Holds name entry

-- one of the entries holds the name with the number
pub record IsFound (entries : List Entry) (number : ℕ) (name : List ℕ) : Type 0 where
  pub entry : Entry
  pub one : IsOneOf entries entry
  pub number_is : entry.number ≡ number
  pub held : Holds name entry

-- what the entry holds is the name with its number
abbrev pub IsRight : List (List ℕ) → Entry → Type 0
IsRight names entry = 0 < entry.length
    → (name : List ℕ) × (slice_get names entry.number ≡ Some name) × Holds name entry

-- and so it is of each entry
abbrev pub AreRight : List (List ℕ) → List Entry → Type 0
AreRight names entries = (entry : Entry) → IsOneOf entries entry → IsRight names entry

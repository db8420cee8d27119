-- The content of an event's line, in the parts that are put.
use Rattle.std.proofs.Common.{◌≡◌, ℕ, List, ◌∷◌, ◌++◌, Some, refl, append_assoc}
use Rattle.std.specs.Prelude.{slice_get}
use Rattle.rapid_line.specs.Grammar.{NamedEvent, spelling, content_of}
use Rattle.rapid_text.specs.declared.causes.Kind.{Kind}
use Rattle.rapid_text.specs.Tables.{Tables, space, name_at}

-- the bytes at a number are the name with that number
pub name_found : (t : Tables) (kind : Kind) (n : ℕ) (name : List ℕ)
    → slice_get (space t kind).names n ≡ Some name → name ≡ name_at t kind n
name_found t kind n name is = rw is refl

pub event_parts : (t s a l : List ℕ) (e : NamedEvent) → t ≡ e.thread → s ≡ spelling e.word → a ≡ e.argument
    → l ≡ e.location → t ++ 124 ∷ (s ++ 40 ∷ (a ++ 41 ∷ 124 ∷ l)) ≡ content_of e
event_parts t s a l e p q r z = rw (p, q, r, z) (simp append_assoc)

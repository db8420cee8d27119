-- The two newest closed sections of different threads, by their numbers: 0 where there is none.
use Rattle.std.specs.Prelude.{ℕ, List, [], ◌∷◌, cond, nat_eq}
use Rattle.section_sum.specs.declared.newest.Newest.{Newest}

abbrev pub no_sections : Newest
no_sections = record { thread = record { 0 = 0 }; newest = 0; other = 0 }

-- the newest by another thread than t
abbrev pub others_at : Newest → ℕ → ℕ
others_at n t = cond (nat_eq t n.thread.0) n.other n.newest

-- after the thread closes the section with the number
abbrev pub closed_two : ℕ → ℕ → Newest → Newest
closed_two t number n = record { thread = record { 0 = t }; newest = number; other = others_at n t }

-- the section with the number, where there is one
abbrev pub section : ℕ → List ℕ
section n = cond (nat_eq n 0) [] (n ∷ [])

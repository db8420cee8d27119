-- Closed sections as they are read from their entries and the list of all numbers.
use Rattle.std.proofs.Common.{◌≡◌, ℕ, zero, suc, ◌+◌, ◌<◌, ◌≤◌, ◌⊎◌, List, [], ◌∷◌, ◌++◌, length}
use Rattle.std.proofs.Common.{take, drop, refl, sym, ap, ap₂, subst, ◌∙◌, arith, length-drop, length-append}
use Rattle.std.proofs.Math.Seq.{drop-append_seam, take-length}
use Rattle.std.proofs.lemmas.Bool.{cases_lt}
use Rattle.std.proofs.lemmas.List.{take-append-le, drop-append-le, get_or_append_left, get_or_push}
use Rattle.std.proofs.lemmas.List.{length-map, length_push, map_push}
use mathlib.Core.Logic.{inl, inr}
use Rattle.event_core.specs.Closed.{Closed}
use Rattle.hb_clocks.specs.Counts.{counts_of}
use Rattle.hb_clocks.specs.Releases.{Place, numbers_at, raised, IsReadable}
use Rattle.lock_queues.specs.declared.sections.Entry.{Entry}
use Rattle.lock_queues.specs.Sections.{no_closed, closed_at, section_of, sections_of, entry_at, AreRising}
use Rattle.lock_queues.specs.Sections.{AreReadable, HasJoined}
use Rattle.lock_queues.specs.Searched.{IsAboveAll}
use Rattle.lock_queues.proofs.LatestCountedProperties.{has_at}
use Rattle.lock_queues.proofs.IsKeptProperties.{each_pushed}

-- there are as many sections as entries
pub count_of : (ns : List ℕ) (es : List Entry) → length (sections_of ns es) ≡ length es
count_of ns es = length-map es (section_of ns)

-- a section by the entry at its place
pub section_is : (ns : List ℕ) (es : List Entry) (k : ℕ)
    → closed_at (sections_of ns es) k ≡ section_of ns (entry_at es k)
section_is ns [] k = refl
section_is ns (e ∷ es) zero = refl
section_is ns (e ∷ es) (suc k) = section_is ns es k

-- further numbers change no section
numbers_grown : (ns ms : List ℕ) (p : Place) → p.start + p.width ≤ length ns
    → numbers_at (ns ++ ms) p ≡ numbers_at ns p
numbers_grown ns ms p within =
    let left = length-drop p.start ns in
    ap (take p.width) (drop-append-le p.start ns ms (omega arith))
    ∙ take-append-le p.width (drop p.start ns) ms (omega arith)

-- an entry that can be read can be read from a longer list of numbers
pub readable_grown : (ns ms : List ℕ) (e : Entry) → IsReadable ns e.place → IsReadable (ns ++ ms) e.place
readable_grown ns ms e is =
    let longer = length-append ns ms in let within = is.within in record { within = omega arith }

-- the section of the entry, by the numbers of its release
abbrev section_with : Entry → List ℕ → Closed
section_with e xs = record {
  thread = e.acquire.thread;
  position = e.acquire.position;
  release = counts_of (raised e.acquire.thread xs);
}

-- a longer list of numbers gives the same sections
pub sections_grown : (ns ms : List ℕ) (es : List Entry) → AreReadable ns es
    → sections_of (ns ++ ms) es ≡ sections_of ns es
sections_grown ns ms [] are = refl
sections_grown ns ms (e ∷ es) are =
    ap₂ (λ (xs : List ℕ) (qs : List Closed). section_with e xs ∷ qs)
    (numbers_grown ns ms e.place (are zero (omega arith)).within)
    (sections_grown ns ms es (λ k lt. are (suc k) (omega arith)))

-- an entry that joins, with its numbers after all others
joined_numbers : (ns ms : List ℕ) (x : Place) → x.start ≡ length ns → x.width ≡ length ms
    → numbers_at (ns ++ ms) x ≡ ms
joined_numbers ns ms x start width =
    ap₂ (λ w s. take w (drop s (ns ++ ms))) width start ∙ ap (take (length ms)) (drop-append_seam ns ms)
    ∙ take-length ms

-- the section that joined
pub joined_sections : {ns ms : List ℕ} {es fs : List Entry} {t p w : ℕ} {c : ℕ → ℕ}
    → (j : HasJoined ns ms es fs t p w c) → AreReadable ns es
    → sections_of ms fs ≡ sections_of ns es ++ record { thread = t; position = p; release = c } ∷ []
joined_sections {ns = ns} {es = es} {t = t} {p = p} {c = c} j are =
    let read : section_with j.entry j.kept.added ≡ record { thread = t; position = p; release = c }
    = λ i. record {
      thread = j.thread i;
      position = j.acquired i;
      release = (ap (λ u. counts_of (raised u j.kept.added)) j.thread ∙ j.kept.release) i;
    } in
    ap₂ sections_of j.kept.numbers j.entries ∙ map_push (section_of (ns ++ j.kept.added)) es j.entry
    ∙ ap₂ (λ (qs : List Closed) (q : Closed). qs ++ q ∷ []) (sections_grown ns j.kept.added es are)
    (ap (section_with j.entry) (joined_numbers ns j.kept.added j.entry.place j.kept.start j.kept.count)
    ∙ read)

-- once a section has joined, all entries can be read
pub joined_readable : {ns ms : List ℕ} {es fs : List Entry} {t p w : ℕ} {c : ℕ → ℕ}
    → (j : HasJoined ns ms es fs t p w c) → AreReadable ns es → AreReadable ms fs
joined_readable {ns = ns} {es = es} {fs = fs} j are =
    let longer = length-append ns j.kept.added in
    let start = j.kept.start in
    let width = j.kept.count in
    let mine : IsReadable (ns ++ j.kept.added) j.entry.place = record { within = omega arith } in
    subst (λ (xs : List ℕ). AreReadable xs fs) (sym j.kept.numbers)
    (subst (AreReadable (ns ++ j.kept.added)) (sym j.entries)
    (each_pushed (λ (e : Entry). IsReadable (ns ++ j.kept.added) e.place) es j.entry
    (λ k lt. readable_grown ns j.kept.added (entry_at es k) (are k lt)) mine))

-- a section that is closed after the others
pub at_front : (qs : List Closed) (q : Closed) (k : ℕ) → k < length qs
    → closed_at (qs ++ q ∷ []) k ≡ closed_at qs k
at_front qs q k lt = get_or_append_left qs (q ∷ []) no_closed k lt

-- the section that joined is at the end
pub at_end : (qs : List Closed) (q : Closed) (k : ℕ) → length qs ≡ k → closed_at (qs ++ q ∷ []) k ≡ q
at_end qs q k e = get_or_push qs q no_closed k e

rising_push : (qs : List Closed) (q : Closed) → AreRising qs → IsAboveAll q.release qs → AreRising
    (qs ++ q ∷ [])
rising_push qs q rising above k m u le lt = go (cases_lt m (length qs)) (cases_lt k (length qs))
  where
    go : (m < length qs) ⊎ (length qs ≤ m) → (k < length qs) ⊎ (length qs ≤ k)
        → (closed_at (qs ++ q ∷ []) k).release u ≤ (closed_at (qs ++ q ∷ []) m).release u
    go (inl below) either =
        let a = ap (λ (s : Closed). s.release u) (at_front qs q k (omega arith)) in
        let b = ap (λ (s : Closed). s.release u) (at_front qs q m below) in
        let h = rising k m u le below in
        omega arith
    go (inr past) (inl below) =
        let n = length_push qs q in
        let a = ap (λ (s : Closed). s.release u) (at_front qs q k below) in
        let b = ap (λ (s : Closed). s.release u) (at_end qs q m (omega arith)) in
        let h : (closed_at qs k).release u ≤ q.release u = above (closed_at qs k) u (has_at qs k below) in
        omega arith
    go (inr past) (inr too) =
        let n = length_push qs q in
        let a = ap (λ (s : Closed). s.release u) (at_end qs q k (omega arith)) in
        let b = ap (λ (s : Closed). s.release u) (at_end qs q m (omega arith)) in
        omega arith

-- a section whose clock is above all others' joins in order
pub joined_rising : {ns ms : List ℕ} {es fs : List Entry} {t p w : ℕ} {c : ℕ → ℕ}
    → (j : HasJoined ns ms es fs t p w c) → AreReadable ns es → AreRising (sections_of ns es)
    → IsAboveAll c (sections_of ns es) → AreRising (sections_of ms fs)
joined_rising {ns = ns} {es = es} {t = t} {p = p} {c = c} j are rising above =
    subst AreRising (sym (joined_sections j are))
    (rising_push (sections_of ns es) (record { thread = t; position = p; release = c }) rising above)

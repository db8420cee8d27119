-- Closed sections by their entries, and by the two lists in which they are kept.
use Rattle.std.proofs.Common.{◌≡◌, ℕ, zero, suc, ◌<◌, List, [], ◌∷◌, ◌++◌, length, get_or, refl, ap, ◌∙◌}
use Rattle.std.proofs.Common.{arith}
use Rattle.std.proofs.lemmas.Simd.{length-zip2, get_or-zip2}
use Rattle.std.proofs.lemmas.List.{length-map}
use Rattle.hb_clocks.specs.Marks.{MarkedEvent, mark_at}
use Rattle.hb_clocks.specs.Releases.{Place}
use Rattle.lock_queues.specs.declared.sections.Entry.{Entry}
use Rattle.lock_queues.specs.Sections.{entry_at, no_entry, acquires_of, entries_of}

abbrev entry_of : MarkedEvent → Place → Entry
entry_of m p = record { acquire = m; place = p }

-- there are as many entries as acquires
pub count_listed : (ms : List MarkedEvent) (ps : List Place) → length ms ≡ length ps
    → length (entries_of ms ps) ≡ length ms
count_listed ms ps same = length-zip2 entry_of ms ps same

-- the entry at a place has what the lists have there
pub entry_listed : (ms : List MarkedEvent) (ps : List Place) (k : ℕ) → length ms ≡ length ps → k < length ms
    → entry_at (entries_of ms ps) k
    ≡ record { acquire = get_or ms k no_entry.acquire; place = get_or ps k no_entry.place }
entry_listed ms ps k same lt =
    get_or-zip2 entry_of ms ps k no_entry.acquire no_entry.place no_entry lt (omega arith)

-- the acquires of the entries are those of the first list
pub acquires_listed : (ms : List MarkedEvent) (ps : List Place) → length ms ≡ length ps
    → acquires_of (entries_of ms ps) ≡ ms
acquires_listed [] ps same = refl
acquires_listed (m ∷ ms) [] same = absurd (omega (arith, same))
acquires_listed (m ∷ ms) (p ∷ ps) same =
    ap (λ (xs : List MarkedEvent). m ∷ xs) (acquires_listed ms ps (omega (arith, same)))

-- one more in both lists is one entry more
pub listed_push : (ms : List MarkedEvent) (ps : List Place) (m : MarkedEvent) (p : Place)
    → length ms ≡ length ps
    → entries_of (ms ++ m ∷ []) (ps ++ p ∷ []) ≡ entries_of ms ps ++ record { acquire = m; place = p } ∷ []
listed_push [] [] m p same = refl
listed_push [] (q ∷ ps) m p same = absurd (omega (arith, same))
listed_push (n ∷ ms) [] m p same = absurd (omega (arith, same))
listed_push (n ∷ ms) (q ∷ ps) m p same =
    ap (λ (xs : List Entry). entry_of n q ∷ xs) (listed_push ms ps m p (omega (arith, same)))

-- the marks of the acquires are those of the entries
mark_is : (es : List Entry) (k : ℕ) → mark_at (acquires_of es) k ≡ (entry_at es k).acquire
mark_is [] k = refl
mark_is (e ∷ es) zero = refl
mark_is (e ∷ es) (suc k) = mark_is es k

-- the acquire at a place is that of the entry there
pub mark_seen : {ms : List MarkedEvent} (es : List Entry) → ms ≡ acquires_of es → (k : ℕ)
    → mark_at ms k ≡ (entry_at es k).acquire
mark_seen es are k = ap (λ (xs : List MarkedEvent). mark_at xs k) are ∙ mark_is es k

-- there are as many acquires as entries
pub count_seen : {ms : List MarkedEvent} (es : List Entry) → ms ≡ acquires_of es → length ms ≡ length es
count_seen es are = ap length are ∙ length-map es (λ (e : Entry). e.acquire)

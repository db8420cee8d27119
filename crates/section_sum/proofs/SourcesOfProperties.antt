-- The sections that an access meets, in the words that callers see.
use Rattle.std.proofs.Common.{◌≡◌, ℕ, ◌≤◌, Bool, true, false, cond, List, nat_eq}
use Rattle.std.proofs.Common.{[], ◌∷◌, length, length-append, refl, sym, subst, ◌∙◌, arith}
use Rattle.std.specs.Prelude.{zero, suc}
use Rattle.std.proofs.lemmas.List.{length-map}
use Rattle.event_core.specs.declared.events.AccessKind.{AccessKind}
use Rattle.event_core.specs.declared.events.AccessKind.TheVariants.{Read, Write}
use Rattle.section_sum.specs.Newest.{section}
use Rattle.section_sum.specs.Cells.{Stored}
use Rattle.section_sum.specs.LockSums.{LockSum, kept_at, shown, all_shown}
use Rattle.section_sum.specs.Entries.{Entries, entries_of, sources_on}
use Rattle.section_sum.specs.Sums.{Sums, said_of, others_of, sources_of, SameMemory}
use Rattle.section_sum.specs.Sources.{most_sources}

-- what callers see of cells and locks
abbrev pub sums : Stored → List LockSum → Sums
sums cells locks = record { cells = cells; locks = all_shown locks }

-- what callers see of one lock
pub shown_at : (locks : List LockSum) (l : ℕ) → kept_at (all_shown locks) l ≡ shown (kept_at locks l)
shown_at [] l = refl
shown_at (k ∷ ks) zero = refl
shown_at (k ∷ ks) (suc l) = shown_at ks l

-- what callers see said of each lock is what is said within
pub said_as : (cells : Stored) (locks : List LockSum) → said_of (sums cells locks) ≡ entries_of cells locks
said_as cells locks i l = record (entries_of cells locks l) { by = (shown_at locks l i).by }

-- what holds of all locks within holds of what callers see
pub seen : (P : (ℕ → Entries) → (ℕ → Entries) → Type 0) {now : Sums} (cells new : Stored)
    (locks more : List LockSum) → sums cells locks ≡ now → P (entries_of cells locks) (entries_of new more)
    → P (said_of now) (said_of (sums new more))
seen P cells new locks more is h =
    subst (λ (s : Sums). P (said_of s) (said_of (sums new more))) is
    (subst (P (said_of (sums cells locks))) (sym (said_as new more))
    (subst (λ f. P f (entries_of new more)) (sym (said_as cells locks)) h))

-- calls that keep the cells and the locks that are known keep the memory
pub same_memory : {now : Sums} (cells new : Stored) (locks more : List LockSum) → sums cells locks ≡ now
    → new.places ≡ cells.places → length more ≡ length locks → SameMemory now (sums new more)
same_memory cells new locks more is places count =
    subst (λ (s : Sums). SameMemory s (sums new more)) is (record {
      cells = places;
      locks = length-map more shown ∙ count ∙ sym (length-map locks shown);
    })

-- the sections that an access meets
pub meets : (s : Sums) (l v : ℕ) (k : AccessKind) (t : ℕ)
    → sources_on (said_of s l) v k t ≡ sources_of s l v k t
unfolding sources_of others_of
meets s l v Read t = refl
meets s l v Write t = refl

few_section : (n : ℕ) → length (section n) ≤ 1
few_section n = by (nat_eq n 0)
  where
    by : (b : Bool) → length (cond b [] (n ∷ [])) ≤ 1
    by true = omega arith
    by false = omega arith

-- an access meets at most one section for a load, two for a store
pub few_sources : (s : Sums) (l v : ℕ) (k : AccessKind) (t : ℕ)
    → length (sources_of s l v k t) ≤ most_sources k
unfolding sources_of
few_sources s l v Read t = few_section (others_of s l v Write t)
few_sources s l v Write t =
    let a = few_section (others_of s l v Write t) in
    let b = few_section (others_of s l v Read t) in
    let both = length-append (section (others_of s l v Write t)) (section (others_of s l v Read t)) in
    omega (arith, a, b, both)

-- What is kept of all locks stays so over each change of one.
use Rattle.std.proofs.Common.{max, ap₂, ◌*◌, ◌≡◌, ℕ, ◌+◌, ◌<◌, ◌≤◌, zero, suc, true, List, length, set}
use Rattle.std.proofs.Common.{get_or, sym, ap, subst, ◌∙◌, arith, length-set, length-append}
use Rattle.std.proofs.Math.Nat.{suc-mul}
use Rattle.std.proofs.lemmas.Bool.{cases_eq}
use Rattle.std.proofs.lemmas.List.{get_or_read}
use Rattle.std.proofs.lemmas.List.Sums.{sum_by-set}
use mathlib.Core.Logic.{inl, inr}
use Rattle.lock_queues.specs.declared.sections.Entry.{Entry}
use Rattle.lock_queues.specs.Sections.{entry_at, sections_of, AreReadable, AreRising, HasJoined}
use Rattle.lock_queues.specs.Searched.{IsAboveAll}
use Rattle.lock_queues.specs.Queue.{OneQueue, queue_at, no_queue, AreAlike}
use Rattle.lock_queues.specs.Queues.{AreWide, AreKept, count_slots}
use Rattle.lock_queues.specs.Slots.{has_slot, opened_in}
use Rattle.lock_queues.proofs.SlotsProperties.{Whether, has_placed}
use Rattle.lock_queues.proofs.QueueAtProperties.{at_same, at_other}
use Rattle.lock_queues.proofs.SectionsOfProperties.{joined_readable, joined_rising, readable_grown}
use Rattle.lock_queues.proofs.SectionsOfProperties.{sections_grown}

-- what is true of each queue stays so where it is true of the one that is put in place of another
pub each_set : (P : OneQueue → Type 0) (qs : List OneQueue) (l : ℕ) (q : OneQueue) → l < length qs
    → ((m : ℕ) → P (queue_at qs m)) → P q → (m : ℕ) → P (queue_at (set qs l q) m)
each_set P qs l q lt all here m = go (cases_eq m l)
  where
    go : Whether m l → P (queue_at (set qs l q) m)
    go (inl is) = subst P (sym (at_same qs l m q lt is)) here
    go (inr away) = subst P (sym (at_other qs l m q away)) (all m)

wide_set : (w : ℕ) (qs : List OneQueue) (l : ℕ) (q : OneQueue) → l < length qs → AreWide w qs
    → q.width ≡ (queue_at qs l).width → AreWide w (set qs l q)
wide_set w qs l q lt wide same m within = go (cases_eq m l)
  where
    go : Whether m l → (queue_at (set qs l q) m).width ≡ w
    go (inl is) = ap (λ (k : OneQueue). k.width) (at_same qs l m q lt is) ∙ same ∙ wide l lt
    go (inr away) =
        let length = length-set qs l q in
        ap (λ (k : OneQueue). k.width) (at_other qs l m q away) ∙ wide m (omega arith)

-- how many slots there are where one queue is another
pub slots_set : (qs : List OneQueue) (l : ℕ) (q : OneQueue) → l < length qs
    → count_slots (set qs l q) + length (queue_at qs l).slots ≡ count_slots qs + length q.slots
slots_set qs l q lt = sum_by-set (λ (k : OneQueue). length k.slots) qs l q no_queue lt

-- a lock with a slot is among those whose slots are counted
pub some_made : (qs : List OneQueue) (t l : ℕ) → l < length qs → has_slot (queue_at qs l).slots t ≡ true
    → 0 < count_slots qs
some_made qs t l lt has =
    let sum = slots_set qs l no_queue lt in
    let some = (has_placed (queue_at qs l).slots t has).within in
    omega arith

-- of so many slots each has memory for a clock
pub one_fits : (made w : ℕ) → 0 < made → w ≤ made * w
one_fits zero w some = absurd (omega arith)
one_fits (suc n) w some = let times = suc-mul n w in omega arith

one_fewer : (made now w : ℕ) → now + 1 ≡ made → made * w ≡ now * w + w
one_fewer made now w is =
    let next : made ≡ suc now = omega arith in ap (λ n. n * w) next ∙ suc-mul now w

-- there is more memory for numbers
pub kept_larger : {w : ℕ} {qs : List OneQueue} {ns ms : List ℕ} {made most more : ℕ}
    → AreKept w qs ns made most
    → ms ≡ ns → most ≤ more → AreKept w qs ms made more
kept_larger {w = w} {qs = qs} {ns = ns} {made = made} {more = more} kept same le =
    let spare = kept.spare in
    subst (λ (xs : List ℕ). AreKept w qs xs made more) (sym same) (record {
      wide = kept.wide;
      readable = kept.readable;
      rising = kept.rising;
      slots = kept.slots;
      spare = omega (arith, spare, le);
    })

-- a queue that was read has other slots
pub kept_set : {w : ℕ} {qs : List OneQueue} {ns : List ℕ} {made most : ℕ} {x : OneQueue} (l : ℕ)
    (q : OneQueue) (now : ℕ)
    → AreKept w qs ns made most → l < length qs → x ≡ get_or qs l x → q.width ≡ x.width
    → q.entries ≡ x.entries → now + length x.slots ≡ made + length q.slots
    → length ns + now * w ≤ most → AreKept w (set qs l q) ns now most
kept_set {w = w} {qs = qs} {ns = ns} {made = made} {x = x} l q now kept lt read width entries slots spare =
    let is : x ≡ queue_at qs l = get_or_read qs l x lt read no_queue in
    let same = entries ∙ ap (λ (k : OneQueue). k.entries) is in
    let many = ap (λ (k : OneQueue). length k.slots) is in
    let counted = kept.slots in
    let sum = slots_set qs l q lt in
    record {
      wide = wide_set w qs l q lt kept.wide (width ∙ ap (λ (k : OneQueue). k.width) is);
      readable = each_set (λ (k : OneQueue). AreReadable ns k.entries) qs l q lt kept.readable
          (subst (AreReadable ns) (sym same) (kept.readable l));
      rising = each_set (λ (k : OneQueue). AreRising (sections_of ns k.entries)) qs l q lt kept.rising
          (subst (λ (es : List Entry). AreRising (sections_of ns es)) (sym same) (kept.rising l));
      slots = omega (arith, counted, sum, slots, many);
      spare = spare;
    }

-- further queues have no sections
pub kept_alike : {w v : ℕ} {qs rs : List OneQueue} {ns : List ℕ} {made most : ℕ}
    → AreKept w qs ns made most → AreAlike qs rs → v ≡ w → AreWide v rs → count_slots rs ≡ count_slots qs
    → AreKept w rs ns made most
kept_alike {ns = ns} kept alike same wide slots = record {
  wide = λ m within. wide m within ∙ same;
  readable = λ l. subst (AreReadable ns) (sym (alike l).0) (kept.readable l);
  rising = λ l. subst (λ (es : List Entry). AreRising (sections_of ns es)) (sym (alike l).0) (kept.rising l);
  slots = kept.slots ∙ sym slots;
  spare = kept.spare;
}

-- a section joins those of the queue that a read gave
pub joined_at : {ns ms : List ℕ} {w t : ℕ} {c : ℕ → ℕ} (qs : List OneQueue) (l : ℕ) (q x : OneQueue)
    → q ≡ queue_at qs l → (queue_at qs l).width ≡ w
    → HasJoined ns ms q.entries x.entries t (opened_in q.slots t) q.width c
    → HasJoined ns ms (queue_at qs l).entries x.entries t (opened_in (queue_at qs l).slots t) w c
joined_at {ns = ns} {ms = ms} {t = t} {c = c} qs l q x read width j =
    let Joins : OneQueue → ℕ → Type 0
    = λ y w. HasJoined ns ms y.entries x.entries t (opened_in y.slots t) w c in
    subst (λ w. Joins (queue_at qs l) w) width (subst (λ (y : OneQueue). Joins y y.width) read j)

-- a section joins
pub kept_joined : {w : ℕ} {qs : List OneQueue} {ns ms : List ℕ} {made most more : ℕ} {t p : ℕ} {c : ℕ → ℕ}
    (l : ℕ) (q : OneQueue) (now : ℕ)
    → AreKept w qs ns made most → l < length qs → q.width ≡ (queue_at qs l).width
    → (j : HasJoined ns ms (queue_at qs l).entries q.entries t p w c)
    → IsAboveAll c (sections_of ns (queue_at qs l).entries)
    → now + 1 ≡ made → length q.slots + 1 ≡ length (queue_at qs l).slots → most ≤ more
    → AreKept w (set qs l q) ms now more
kept_joined {w = w} {qs = qs} {ns = ns} {ms = ms} {made = made} l q now kept lt width j above one slots le =
    let counted = kept.slots in
    let sum = slots_set qs l q lt in
    record {
      wide = wide_set w qs l q lt kept.wide width;
      readable = each_set (λ (k : OneQueue). AreReadable ms k.entries) qs l q lt
          (λ m. subst (λ (xs : List ℕ). AreReadable xs (queue_at qs m).entries) (sym j.kept.numbers)
          (λ k within. readable_grown ns j.kept.added (entry_at (queue_at qs m).entries k)
          (kept.readable m k within)))
          (joined_readable j (kept.readable l));
      rising = each_set (λ (k : OneQueue). AreRising (sections_of ms k.entries)) qs l q lt
          (λ m. subst AreRising
          (sym (ap (λ (xs : List ℕ). sections_of xs (queue_at qs m).entries) j.kept.numbers
          ∙ sections_grown ns j.kept.added (queue_at qs m).entries (kept.readable m))) (kept.rising m))
          (joined_rising j (kept.readable l) (kept.rising l) above);
      slots = omega (arith, counted, sum, slots, one);
      spare = (let numbers = ap length j.kept.numbers ∙ length-append ns j.kept.added in
          let few = j.kept.within in
          let enough = kept.spare in
          let times = one_fewer made now w one in
          omega (arith, numbers, few, enough, times, le));
    }

-- there is memory for no more than twice the numbers that are needed
pub numbers_fit : (qs : List OneQueue) (len old : ℕ) {made slots width threads new : ℕ} → made
    ≡ count_slots qs
    → slots ≡ made + 1 → width ≡ threads → new ≤ max old (2 * (len + slots * width))
    → new ≤ max old (2 * (len + (count_slots qs + 1) * threads))
numbers_fit qs len old {new = new} kept next wide most =
    subst (λ n. new ≤ max old (2 * (len + n))) (ap₂ (λ a b. a * b) (next ∙ ap (λ n. n + 1) kept) wide) most

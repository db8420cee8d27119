-- The names of a line of which some are new: whether each has a number left.
use Rattle.std.proofs.Common.{◌≡◌, ◌≢◌, ℕ, ◌+◌, ◌<◌, ◌≤◌, List, length, Option, Some, None, Result, Ok, Err}
use Rattle.std.proofs.Common.{refl, sym, ap, subst, ◌∙◌, arith, ◌⊎◌, inl, inr}
use Rattle.std.specs.Prelude.{IsOk, IsSome}
use Rattle.std.proofs.lemmas.List.{length_push}
use Rattle.event_core.specs.declared.events.Event.{Event}
use Rattle.rapid_line.specs.declared.words.Word.{Word}
use Rattle.rapid_line.specs.declared.words.Word.TheVariants as words
use Rattle.rapid_line.specs.Grammar.{NamedEvent}
use Rattle.rapid_line.specs.Reading.{and_then}
use Rattle.rapid_text.specs.declared.causes.Kind.{Kind}
use Rattle.rapid_text.specs.declared.causes.Kind.TheVariants as kinds
use Rattle.rapid_text.specs.declared.causes.Cause.{Cause}
use Rattle.rapid_text.specs.declared.causes.Cause.TheVariants as causes
use Rattle.rapid_text.specs.Numbers.{Numbered, with_name, found_number}
use Rattle.rapid_text.specs.Tables.{Tables, space, number_in}
use Rattle.rapid_text.specs.Events.{kind_of, event_of, number_or_fault, named_event, some_event, HasEvent}
use Rattle.rapid_text.specs.declared.event_lines.Known.{Known}
use Rattle.rapid_text.specs.KnownNames.{AreKnown, AddsTwo}
use Rattle.rapid_text.proofs.NamePlaces.{fits, lacks, known_place, spaces, same_place, other_place, has_place}
use Rattle.rapid_text.proofs.NamePlaces.{keeps_thread, numbered_again}

pub event_read : (r : Result (Event × Tables) Cause) → IsOk r → HasEvent (some_event r)
event_read (Ok p) ok = refl
event_read (Err f) ok = absurd cc

-- the argument's space after the thread was numbered: the thread is one more in it, or it is the same
record OneMore (t u : Tables) (kind : Kind) (a : List ℕ) (n : ℕ) : Type 0 where
  thread : kind ≡ kinds.Thread
  new : found_number (space t kind) a ≡ None
  number : n ≡ length (space t kind).names
  is : space u kind ≡ with_name (space t kind) a

record AsBefore (t u : Tables) (kind : Kind) (a : List ℕ) (n : ℕ) : Type 0 where
  is : space u kind ≡ space t kind
  known : kind ≡ kinds.Thread → found_number (space t kind) a ≡ Some n

after_thread : (t u : Tables) (kind : Kind) (a : List ℕ) (n : ℕ) → number_in t kinds.Thread a ≡ Some (n, u)
    → OneMore t u kind a n ⊎ AsBefore t u kind a n
after_thread t u kinds.Thread a n e =
    elim (spaces t kinds.Thread a n u e).own [
      | inl was ↦ inr (record { is = was.1; known = λ _. was.0 })
      | inr new ↦ inl (record { thread = refl; new = new.0; number = new.1; is = new.2 })
    ]
after_thread t u kind a n e =
    inr (record {
      is = (spaces t kinds.Thread a n u e).others kind (λ bad. absurd cc);
      known = λ bad. absurd cc;
    })

-- an argument is no location
no_site : (w : Word) → kinds.Site ≢ kind_of w
no_site words.Load bad = absurd cc
no_site _ bad = absurd cc

sites_kept : (t u v : Tables) (e : NamedEvent) (n k : ℕ) → number_in t kinds.Thread e.thread ≡ Some (n, u)
    → number_in u (kind_of e.word) e.argument ≡ Some (k, v) → space v kinds.Site ≡ space t kinds.Site
sites_kept t u v e n k first second =
    (spaces u (kind_of e.word) e.argument k v second).others kinds.Site (no_site e.word)
    ∙ (spaces t kinds.Thread e.thread n u first).others kinds.Site (λ bad. absurd cc)

-- ---- the names of a line

abbrev after_target : NamedEvent → ℕ → ℕ × Tables → Result (Event × Tables) Cause
after_target e thread q =
    and_then (number_or_fault kinds.Site (number_in q.1 kinds.Site e.location))
    (λ r. Ok (event_of e.word thread q.0 r.0, r.1))

abbrev after_first : NamedEvent → ℕ × Tables → Result (Event × Tables) Cause
after_first e p =
    and_then (number_or_fault (kind_of e.word) (number_in p.1 (kind_of e.word) e.argument))
    (after_target e p.0)

named_by_first : (t : Tables) (e : NamedEvent) (o : Option (ℕ × Tables))
    → number_in t kinds.Thread e.thread ≡ o
    → named_event t e ≡ and_then (number_or_fault kinds.Thread o) (after_first e)
unfolding named_event
named_by_first t e o is =
    ap (λ (x : Option (ℕ × Tables)). and_then (number_or_fault kinds.Thread x) (after_first e)) is

named_by_second : (t u : Tables) (e : NamedEvent) (n : ℕ) (o : Option (ℕ × Tables))
    → number_in t kinds.Thread e.thread ≡ Some (n, u) → number_in u (kind_of e.word) e.argument ≡ o
    → named_event t e ≡ and_then (number_or_fault (kind_of e.word) o) (after_target e n)
named_by_second t u e n o first is =
    named_by_first t e (Some (n, u)) first
    ∙ ap (λ (x : Option (ℕ × Tables)). and_then (number_or_fault (kind_of e.word) x) (after_target e n)) is

named_by_third : (t u v : Tables) (e : NamedEvent) (n k : ℕ) (o : Option (ℕ × Tables))
    → number_in t kinds.Thread e.thread ≡ Some (n, u)
    → number_in u (kind_of e.word) e.argument ≡ Some (k, v) → number_in v kinds.Site e.location ≡ o
    → named_event t e ≡ and_then (number_or_fault kinds.Site o) (λ r. Ok (event_of e.word n k r.0, r.1))
named_by_third t u v e n k o first second is =
    named_by_second t u e n (Some (k, v)) first second
    ∙ ap (λ (x : Option (ℕ × Tables)). and_then (number_or_fault kinds.Site x)
    (λ r. Ok (event_of e.word n k r.0, r.1))) is

some_of : (o : Option (ℕ × Tables)) → IsSome o → (n : ℕ) × (u : Tables) × (o ≡ Some (n, u))
some_of None some = absurd cc
some_of (Some p) some = (p.0, p.1, refl)

-- the name is new, and so many more are too many of its kind
abbrev pub PassesLimit : Tables → Kind → Option ℕ → ℕ → Type 0
PassesLimit t kind known more =
    (known ≡ None) × ((space t kind).limit < length (space t kind).names + more)

within_limit : (t : Tables) (kind : Kind) (known : Option ℕ) (more : ℕ)
    → (PassesLimit t kind known more → ⊥) → known ≡ None
    → length (space t kind).names + more ≤ (space t kind).limit
within_limit t kind known more within new =
    let least : (space t kind).limit < length (space t kind).names + more → ⊥ = λ less. within (new, less) in
    omega arith

pub thread_too_many : (t : Tables) (e : NamedEvent) (known : Known) → AreKnown t e known
    → PassesLimit t kinds.Thread known.thread 1
    → named_event t e ≡ Err (causes.TooManyNames kinds.Thread)
thread_too_many t e known are passes =
    named_by_first t e None (lacks t kinds.Thread e.thread (sym are.thread ∙ passes.0)
    (λ left. absurd (let over = passes.1 in omega (arith, left, over))))

module _ (t : Tables) (e : NamedEvent) (known : Known) (m : ℕ) (are : AreKnown t e known)
    (two : AddsTwo e known → m ≡ 2) (one : (AddsTwo e known → ⊥) → m ≡ 1)
    (thread : PassesLimit t kinds.Thread known.thread 1 → ⊥)
  where
    -- the names of the argument's kind
    abbrev own : Numbered
    own = space t (kind_of e.word)

    abbrev Room : ℕ → Type 0
    Room more = length own.names + more ≤ own.limit

    thread_left : known.thread ≡ None
        → length (space t kinds.Thread).names + 1 ≤ (space t kinds.Thread).limit
    thread_left new = within_limit t kinds.Thread known.thread 1 thread new

    thread_fits : IsSome (number_in t kinds.Thread e.thread)
    thread_fits = fits t kinds.Thread e.thread (λ new. thread_left (are.thread ∙ new))

    -- nothing is added before an argument whose space stays
    alone : (n : ℕ) (u : Tables) → AsBefore t u (kind_of e.word) e.thread n → m ≡ 1
    alone n u b = one (λ adds. absurd (
        let place : found_number own e.thread ≡ None =
        ap (λ (k : Kind). found_number (space t k) e.thread) adds.1 ∙ sym are.thread ∙ adds.0 in
        let bad : Some n ≡ None = sym (b.known adds.1) ∙ place in
        cc))

    -- a second thread is added after the first
    both : (n : ℕ) (u : Tables) → OneMore t u (kind_of e.word) e.thread n → e.argument ≢ e.thread → m ≡ 2
    both n u b apart = two (
      are.thread ∙ ap (λ (k : Kind). found_number (space t k) e.thread) (sym b.thread) ∙ b.new,
      b.thread,
      apart,
    )

    target_fits : (n : ℕ) (u : Tables) → number_in t kinds.Thread e.thread ≡ Some (n, u)
        → (known.target ≡ None → Room m) → IsSome (number_in u (kind_of e.word) e.argument)
    target_fits n u first left =
        fits u (kind_of e.word) e.argument (λ new.
        elim (after_thread t u (kind_of e.word) e.thread n first) [
          | inl more ↦
              let named : found_number (with_name own e.thread) e.argument ≡ None =
              ap (λ (s : Numbered). found_number s e.argument) (sym more.is) ∙ new in
              let apart : e.argument ≢ e.thread = λ same. absurd (
              let there = ap (λ (x : List ℕ). found_number (with_name own e.thread) x) same in
              let found = same_place own e.thread more.new in
              let bad : Some (length own.names) ≡ None =
              sym found ∙ sym there ∙ named in cc) in
              let room : Room 2 = subst Room (both n u more apart) (left (are.target
              ∙ sym (other_place own e.thread e.argument apart) ∙ named)) in
              let longer = length_push own.names e.thread in
              subst (λ (s : Numbered). length s.names + 1 ≤ s.limit) (sym more.is)
              (omega (arith, room, longer))
          | inr same ↦
              subst (λ (s : Numbered). length s.names + 1 ≤ s.limit) (sym same.is)
              (subst Room (alone n u same)
              (left (are.target ∙ ap (λ (s : Numbered). found_number s e.argument) (sym same.is) ∙ new)))
        ])

    target_lacks : (n : ℕ) (u : Tables) → number_in t kinds.Thread e.thread ≡ Some (n, u)
        → known.target ≡ None → (Room m → ⊥) → number_in u (kind_of e.word) e.argument ≡ None
    target_lacks n u first new full =
        let place : found_number own e.argument ≡ None = sym are.target ∙ new in
        elim (after_thread t u (kind_of e.word) e.thread n first) [
          | inl more ↦
              let longer = length_push own.names e.thread in
              let apart : e.argument ≢ e.thread = λ same. absurd (
              let alone : m ≡ 1 = one (λ adds. absurd (adds.2 same)) in
              let room : Room 1 = subst (λ (k : Kind). length (space t k).names + 1 ≤ (space t k).limit)
              (sym more.thread)
              (thread_left (are.thread
              ∙ ap (λ (k : Kind). found_number (space t k) e.thread) (sym more.thread)
              ∙ more.new)) in
              full (subst Room (sym alone) room)) in
              let two_more : Room 2 → ⊥ = λ room. full (subst Room (sym (both n u more apart)) room) in
              lacks u (kind_of e.word) e.argument
              (ap (λ (s : Numbered). found_number s e.argument) more.is
              ∙ other_place own e.thread e.argument apart ∙ place)
              (subst (λ (s : Numbered). length s.names + 1 ≤ s.limit → ⊥) (sym more.is)
              (λ room. two_more (omega (arith, room, longer))))
          | inr same ↦
              lacks u (kind_of e.word) e.argument
              (ap (λ (s : Numbered). found_number s e.argument) same.is ∙ place)
              (subst (λ (s : Numbered). length s.names + 1 ≤ s.limit → ⊥) (sym same.is)
              (λ room. full (subst Room (sym (alone n u same)) room)))
        ]

    pub target_too_many : PassesLimit t (kind_of e.word) known.target m
        → named_event t e ≡ Err (causes.TooManyNames (kind_of e.word))
    target_too_many passes =
        let first = some_of (number_in t kinds.Thread e.thread) thread_fits in
        named_by_second t first.1 e first.0 None first.2
        (target_lacks first.0 first.1 first.2 passes.0
        (λ left. absurd (let over = passes.1 in omega (arith, left, over))))

    pub site_too_many : (PassesLimit t (kind_of e.word) known.target m → ⊥)
        → PassesLimit t kinds.Site known.site 1
        → named_event t e ≡ Err (causes.TooManyNames kinds.Site)
    site_too_many target passes =
        let first = some_of (number_in t kinds.Thread e.thread) thread_fits in
        let second = some_of (number_in first.1 (kind_of e.word) e.argument)
        (target_fits first.0 first.1 first.2 (within_limit t (kind_of e.word) known.target m target)) in
        let kept = sites_kept t first.1 second.1 e first.0 second.0 first.2 second.2 in
        let over = passes.1 in
        named_by_third t first.1 second.1 e first.0 second.0 None first.2 second.2
        (lacks second.1 kinds.Site e.location
        (ap (λ (s : Numbered). found_number s e.location) kept ∙ sym are.site ∙ passes.0)
        (subst (λ (s : Numbered). length s.names + 1 ≤ s.limit → ⊥) (sym kept)
        (λ left. absurd (omega (arith, left, over)))))

    pub all_fit : (PassesLimit t (kind_of e.word) known.target m → ⊥)
        → (PassesLimit t kinds.Site known.site 1 → ⊥) → IsOk (named_event t e)
    all_fit target site =
        let first = some_of (number_in t kinds.Thread e.thread) thread_fits in
        let second = some_of (number_in first.1 (kind_of e.word) e.argument)
        (target_fits first.0 first.1 first.2 (within_limit t (kind_of e.word) known.target m target)) in
        let kept = sites_kept t first.1 second.1 e first.0 second.0 first.2 second.2 in
        let third = some_of (number_in second.1 kinds.Site e.location)
        (fits second.1 kinds.Site e.location (λ new.
        subst (λ (s : Numbered). length s.names + 1 ≤ s.limit) (sym kept)
        (within_limit t kinds.Site known.site 1 site
        (are.site ∙ ap (λ (s : Numbered). found_number s e.location) (sym kept) ∙ new)))) in
        let event = named_by_third t first.1 second.1 e first.0 second.0 (Some (third.0, third.1)) first.2
        second.2 third.2 in
        rw event refl

-- ---- a line of which some names were numbered

-- the first name, and the second, have their numbers again, so the line is read as before
pub read_after_first : (t u : Tables) (e : NamedEvent) (n : ℕ)
    → number_in t kinds.Thread e.thread ≡ Some (n, u) → named_event u e ≡ named_event t e
read_after_first t u e n first =
    named_by_first u e (Some (n, u)) (numbered_again t u kinds.Thread e.thread n first)
    ∙ sym (named_by_first t e (Some (n, u)) first)

pub read_after_second : (t u v : Tables) (e : NamedEvent) (n k : ℕ)
    → number_in t kinds.Thread e.thread ≡ Some (n, u)
    → number_in u (kind_of e.word) e.argument ≡ Some (k, v) → named_event v e ≡ named_event t e
read_after_second t u v e n k first second =
    named_by_second v v e n (Some (k, v))
    (known_place v kinds.Thread e.thread n (sym (keeps_thread u v (kind_of e.word) e.argument e.thread k
    n second (has_place t u kinds.Thread e.thread n first))))
    (numbered_again u v (kind_of e.word) e.argument k second)
    ∙ sym (named_by_second t u e n (Some (k, v)) first second)

-- How races are counted by their places.
use Rattle.std.proofs.Common.{◌≡◌, ◌⊎◌, inl, inr, ℕ, suc, zero, ◌+◌, ◌<◌, ◌≤◌, List, [], ◌∷◌, ◌++◌}
use Rattle.std.proofs.Common.{Option, Some, None, Bool, true, false, cond, ◌&&◌, refl, sym, ap, subst, ◌∙◌}
use Rattle.std.proofs.Common.{length, take, set, get_or, nat_eq, nat_lt, count_by, find, position, All, arith}
use Rattle.std.specs.Prelude.{slice_get}
use Rattle.std.specs.List.{position_or_len}
use Rattle.std.specs.Option.{option_or}
use Rattle.std.specs.Cmp.Derive.{both_true}
use Rattle.std.proofs.lemmas.Bool.{and_parts, cases_eq, cases_lt, eqb-true, eq-eqb, ltb-false}
use Rattle.std.proofs.lemmas.Bool.{false_from_ne_true}
use Rattle.std.proofs.lemmas.List.{get_or-set_same, get_or-set_other, length-set, length-take, length_push}
use Rattle.std.proofs.lemmas.List.{take_more}
use Rattle.std.proofs.lemmas.List.Elements.{All-more, All-weaker, All-head, All-tail}
use Rattle.std.proofs.lemmas.List.Folds.{find_at, find-append}
use Rattle.std.proofs.lemmas.List.Quantifiers.{position-Some}
use Rattle.std.proofs.lemmas.List.Sums.{sum_by-cons, count_by_more_yes, count_by_more_no, count_by-le-length}
use Rattle.std.proofs.lemmas.List.Sums.{fails_before_first}
use Rattle.std.proofs.lemmas.Option.{same_Some, slice_get_within, slice_get-get_or, get_or_from_slice_get}
use Rattle.event_core.proofs.BoolProperties.{not_both}
use Rattle.event_core.proofs.Places.{get_before, get_last, front_or_last}
use Rattle.event_core.specs.declared.ids.SiteId.{SiteId}
use Rattle.event_core.specs.declared.ids.VarId.{VarId}
use Rattle.event_core.specs.declared.events.Event.{Event}
use Rattle.event_core.specs.declared.replies.Verdict.{Verdict}
use Rattle.event_core.specs.declared.replies.Verdict.TheVariants.{Clear, Racy}
use Rattle.verdict_list.specs.declared.verdicts.Race.{Race}
use Rattle.verdict_list.specs.Judged.{races_from}
use Rattle.closed_report.specs.declared.places.Place.{Place}
use Rattle.closed_report.specs.declared.places.PlaceRaces.{PlaceRaces}
use Rattle.closed_report.specs.Places.{place_of, same_place, is_at, IsCounted, HasPlace, AreByPlace}
use Rattle.closed_report.specs.Places.{new_place, one_more, counted_at, with_race}

-- ---- the same place

same : (p q : Place) → same_place p q ≡ true → p ≡ q
same p q e =
    let parts = and_parts (nat_eq p.site.0 q.site.0) (nat_eq p.with.0 q.with.0 && nat_eq p.var.0 q.var.0) e in
    let rest = and_parts (nat_eq p.with.0 q.with.0) (nat_eq p.var.0 q.var.0) parts.1 in
    let number : ℕ → SiteId = λ n. record { 0 = n } in
    let variable : ℕ → VarId = λ n. record { 0 = n } in
    let site : p.site ≡ q.site = ap number (eqb-true p.site.0 q.site.0 parts.0) in
    let earlier : p.with ≡ q.with = ap number (eqb-true p.with.0 q.with.0 rest.0) in
    let var : p.var ≡ q.var = ap variable (eqb-true p.var.0 q.var.0 rest.1) in
    λ i. record { site = site i; with = earlier i; var = var i }

itself : (p : Place) → same_place p p ≡ true
itself p =
    both_true (eq-eqb p.site.0 p.site.0 refl)
    (both_true (eq-eqb p.with.0 p.with.0 refl) (eq-eqb p.var.0 p.var.0 refl))

other : (p q : Place) → same_place p q ≡ false → p ≡ q → ⊥
other p q differ e = not_both (sym (ap (same_place p) e) ∙ itself p) differ

apart : (p q : Place) → (p ≡ q → ⊥) → same_place p q ≡ false
apart p q differ = false_from_ne_true (same_place p q) (λ is. differ (same p q is))

-- ---- races in the order of their events

from_at : (j : ℕ) (vs : List Verdict) (k : ℕ) (r : Race) → slice_get (races_from j vs) k ≡ Some r
    → j ≤ r.event
from_at j [] k r at = absurd cc
from_at j (Clear ∷ vs) k r at = omega (arith, from_at (j + 1) vs k r at)
from_at j (Racy w ∷ vs) zero r at =
    let is : j ≡ r.event = ap (λ (t : Race). t.event) (same_Some (record { event = j; with = w }) r at) in
    omega arith
from_at j (Racy w ∷ vs) (suc k) r at = omega (arith, from_at (j + 1) vs k r at)

-- a later race is of a later event
abbrev pub Rises : List Race → Type 0
Rises rs = (i k : ℕ) (a b : Race) → i < k → slice_get rs i ≡ Some a → slice_get rs k ≡ Some b
    → a.event < b.event

races_rise : (j : ℕ) (vs : List Verdict) → Rises (races_from j vs)
races_rise j [] i k a b lt at next = absurd cc
races_rise j (Clear ∷ vs) i k a b lt at next = races_rise (j + 1) vs i k a b lt at next
races_rise j (Racy w ∷ vs) zero zero a b lt at next = absurd (omega arith)
races_rise j (Racy w ∷ vs) zero (suc k) a b lt at next =
    let is : j ≡ a.event = ap (λ (t : Race). t.event) (same_Some (record { event = j; with = w }) a at) in
    omega (arith, from_at (j + 1) vs k b next)
races_rise j (Racy w ∷ vs) (suc i) zero a b lt at next = absurd (omega arith)
races_rise j (Racy w ∷ vs) (suc i) (suc k) a b lt at next =
    races_rise (j + 1) vs i k a b (omega arith) at next

pub rises : (rs : List Race) (vs : List Verdict) → rs ≡ races_from 0 vs → Rises rs
rises rs vs is = subst Rises (sym is) (races_rise 0 vs)

get_of_take : {X : Type 0} (n : ℕ) (xs : List X) (j : ℕ) (x : X) → slice_get (take n xs) j ≡ Some x
    → (j < n) × (slice_get xs j ≡ Some x)
get_of_take zero xs j x at = absurd cc
get_of_take (suc n) [] j x at = absurd cc
get_of_take (suc n) (y ∷ ys) zero x at = (omega arith, at)
get_of_take (suc n) (y ∷ ys) (suc j) x at =
    let rest = get_of_take n ys j x at in
    let before = rest.0 in
    (omega arith, rest.1)

-- ---- one race more

find_kept : (p : Race → Bool) (rs : List Race) (n : ℕ) (d f : Race) → n < length rs
    → find p (take n rs) ≡ Some f → find p (take (n + 1) rs) ≡ Some f
find_kept p rs n d f lt e =
    ap (find p) (take_more rs n d lt) ∙ find-append p (take n rs) (get_or rs n d ∷ [])
    ∙ ap (λ (o : Option Race). option_or o (find p (get_or rs n d ∷ []))) e

none_counted : (p : Race → Bool) (xs : List Race) → All (λ x. p x ≡ false) xs → count_by p xs ≡ 0
none_counted p [] none = refl
none_counted p (x ∷ xs) none =
    let rest = none_counted p xs (All-tail (λ (y : Race). p y ≡ false) x xs none) in
    let here = All-head (λ (y : Race). p y ≡ false) x xs none in
    let one = ap (λ (b : Bool). cond {A = ℕ} b 1 0) here in
    let all : count_by p (x ∷ xs) ≡ cond {A = ℕ} (p x) 1 0 + count_by p xs =
    sum_by-cons (λ (y : Race). cond (p y) 1 0) x xs in
    omega arith

none_found : (p : Race → Bool) (xs : List Race) → All (λ x. p x ≡ false) xs → find p xs ≡ None
none_found p [] none = refl
none_found p (x ∷ xs) none =
    let here = All-head (λ (y : Race). p y ≡ false) x xs none in
    ap (λ (b : Bool). cond b (Some x) (find p xs)) here
    ∙ none_found p xs (All-tail (λ (y : Race). p y ≡ false) x xs none)

module _ (log : List Event) (rs : List Race) (n : ℕ) (d : Race) (lt : n < length rs) where
  -- a place that was found, with its races counted again
  still_counted : (q s : PlaceRaces) → IsCounted log (take n rs) q → s.place ≡ q.place → s.first ≡ q.first
      → s.races ≡ count_by (is_at log q.place) (take (n + 1) rs) → IsCounted log (take (n + 1) rs) s
  still_counted q s c place first count = record {
    count = count ∙ ap (λ (p : Place). count_by (is_at log p) (take (n + 1) rs)) (sym place);
    first = ap (λ (p : Place). find (is_at log p) (take (n + 1) rs)) place
        ∙ find_kept (is_at log q.place) rs n d q.first lt c.first ∙ ap Some (sym first);
  }

  -- one that has no part of the race
  not_there : (q s : PlaceRaces) → IsCounted log (take n rs) q → s.place ≡ q.place → s.first ≡ q.first
      → is_at log q.place (get_or rs n d) ≡ false → s.races ≡ q.races → IsCounted log (take (n + 1) rs) s
  not_there q s c place first there as_many = still_counted q s c place first
      (as_many ∙ c.count ∙ sym (count_by_more_no (is_at log q.place) rs n d lt there))

  -- a new place
  first_of_it : All (λ r. is_at log (place_of log (get_or rs n d)) r ≡ false) (take n rs)
      → IsCounted log (take (n + 1) rs) (new_place (place_of log (get_or rs n d)) (get_or rs n d))
  first_of_it none =
      let r = get_or rs n d in
      let test : Race → Bool = is_at log (place_of log r) in
      let here : test r ≡ true = itself (place_of log r) in
      record {
        count = sym (count_by_more_yes test rs n d lt here
            ∙ ap (λ (k : ℕ). k + 1) (none_counted test (take n rs) none));
        first = ap (find test) (take_more rs n d lt) ∙ find-append test (take n rs) (r ∷ [])
            ∙ ap (λ (o : Option Race). option_or o (find test (r ∷ []))) (none_found test (take n rs) none)
            ∙ ap (λ (b : Bool). cond b (Some r) None) here;
      }

  -- the first race of a place is of an earlier event
  first_before : (p : PlaceRaces) → Rises rs → IsCounted log (take n rs) p
      → p.first.event < (get_or rs n d).event
  first_before p rise c =
      let found = sym (find_at (is_at log p.place) (take n rs)) ∙ c.first in
      let at = get_of_take n rs (position_or_len (is_at log p.place) (take n rs)) p.first found in
      rise _ n p.first (get_or rs n d) at.0 at.1 (slice_get-get_or rs n d lt)

-- ---- where the place stands already

-- what stood there before one of them was counted
record Was (found : List PlaceRaces) (k m : ℕ) (s : PlaceRaces) : Type 0 where
  q : PlaceRaces
  at : slice_get found m ≡ Some q
  place : s.place ≡ q.place
  first : s.first ≡ q.first
  races : ((m ≡ k) × (s.races ≡ q.races + 1)) ⊎ ((m ≡ k → ⊥) × (s.races ≡ q.races))

module _ (found : List PlaceRaces) (k : ℕ) (d : PlaceRaces) (m : ℕ) where
  abbrev after : List PlaceRaces
  after = set found k (one_more (get_or found k d))

  as_long : length after ≡ length found
  as_long = length-set found k (one_more (get_or found k d))

  was : (s : PlaceRaces) → slice_get after m ≡ Some s → Was found k m s
  was s at = go (cases_eq m k)
    where
      within : m < length found
      within = omega (arith, slice_get_within after m s at, as_long)

      is : get_or after m d ≡ s
      is = get_or_from_slice_get after m s d at

      go : (m ≡ k) ⊎ (m ≡ k → ⊥) → Was found k m s
      go (inl here) =
          let counted : s ≡ one_more (get_or found m d) =
          sym is ∙ ap (λ (i : ℕ). get_or after i d) here
          ∙ get_or-set_same found k (one_more (get_or found k d)) d (omega (arith, within))
          ∙ ap (λ (i : ℕ). one_more (get_or found i d)) (sym here) in
          record {
            q = get_or found m d;
            at = slice_get-get_or found m d within;
            place = ap (λ (t : PlaceRaces). t.place) counted;
            first = ap (λ (t : PlaceRaces). t.first) counted;
            races = inl (here, ap (λ (t : PlaceRaces). t.races) counted);
          }
      go (inr other) =
          let same = sym (get_or-set_other found k m (one_more (get_or found k d)) d other) ∙ is in
          record {
            q = s;
            at = slice_get-get_or found m d within ∙ ap Some same;
            place = refl;
            first = refl;
            races = inr (other, refl);
          }

  kept_place : (q : PlaceRaces) → slice_get found m ≡ Some q
      → (s : PlaceRaces) × (slice_get after m ≡ Some s) × (s.place ≡ q.place)
  kept_place q at =
      let within = slice_get_within found m q at in
      let there = slice_get-get_or after m d (omega (arith, within, as_long)) in
      let w = was (get_or after m d) there in
      (get_or after m d, there, w.place ∙ ap (λ (t : PlaceRaces). t.place) (same_Some w.q q (sym w.at ∙ at)))

module _ (log : List Event) (rs : List Race) (n : ℕ) (d : Race) (lt : n < length rs)
    (found : List PlaceRaces) (by : AreByPlace log (take n rs) found) where
  once_kept : (k m : ℕ) (g q : PlaceRaces) → slice_get found k ≡ Some g → slice_get found m ≡ Some q
      → (m ≡ k → ⊥) → q.place ≡ g.place → ⊥
  once_kept k m g q here at differ same_one = elim (cases_lt m k) [
    | inl before ↦ by.once m k q g before at here same_one
    | inr past ↦ elim (cases_lt k m) [
      | inl after ↦ by.once k m g q after here at (sym same_one)
      | inr equal ↦ differ (omega arith)
    ]
  ]

  known : (k : ℕ) (o : PlaceRaces) → k < length found
      → same_place (get_or found k o).place (place_of log (get_or rs n d)) ≡ true
      → AreByPlace log (take (n + 1) rs) (set found k (one_more (get_or found k o)))
  known k o within here =
      let r = get_or rs n d in
      let g = get_or found k o in
      let new : List PlaceRaces = set found k (one_more g) in
      let stands : slice_get found k ≡ Some g = slice_get-get_or found k o within in
      let is : g.place ≡ place_of log r = same g.place (place_of log r) here in
      let mine = kept_place found k o k g stands in
      record {
        each = λ m s at.
            let w = was found k o m s at in
            elim w.races [
              | inl now ↦
                  let q_is : w.q ≡ g = same_Some w.q g
                  (sym w.at ∙ (ap (slice_get found) now.0 ∙ stands)) in
                  let at_place = ap (λ (t : PlaceRaces). same_place t.place (place_of log r)) q_is ∙ here in
                  still_counted log rs n d lt w.q s (by.each m w.q w.at) w.place w.first
                  (now.1 ∙ ap (λ (k : ℕ). k + 1) (by.each m w.q w.at).count
                  ∙ sym (count_by_more_yes (is_at log w.q.place) rs n d lt at_place))
              | inr there ↦
                  not_there log rs n d lt w.q s (by.each m w.q w.at) w.place w.first
                  (apart w.q.place (place_of log r)
                  (λ e. once_kept k m g w.q stands w.at there.0 (e ∙ sym is))) there.1
            ];
        all = All-more (λ (x : Race). HasPlace new (place_of log x)) rs n d lt
            (All-weaker (λ (x : Race). HasPlace found (place_of log x))
            (λ (x : Race). HasPlace new (place_of log x))
            (λ x has.
            let still = kept_place found k o has.0 has.1 has.2 in
            (has.0, still.0, still.1, still.2 ∙ has.3))
            (take n rs) by.all)
            (k, mine.0, mine.1, mine.2 ∙ is);
        once = λ i j p q before at next.
            let a = was found k o i p at in
            let b = was found k o j q next in
            λ e. by.once i j a.q b.q before a.at b.at (sym a.place ∙ e ∙ b.place);
        order = λ i j p q before at next.
            let a = was found k o i p at in
            let b = was found k o j q next in
            let first = ap (λ (t : Race). t.event) a.first in
            let second = ap (λ (t : Race). t.event) b.first in
            let rest = by.order i j a.q b.q before a.at b.at in
            omega arith;
      }

  -- ---- where it is new

  new_one : Rises rs
      → ((j : ℕ) (q : PlaceRaces) → slice_get found j ≡ Some q
      → same_place q.place (place_of log (get_or rs n d)) ≡ false)
      → AreByPlace log (take (n + 1) rs)
      (found ++ new_place (place_of log (get_or rs n d)) (get_or rs n d) ∷ [])
  new_one rise none =
      let r = get_or rs n d in
      let added = new_place (place_of log r) r in
      let new : List PlaceRaces = found ++ added ∷ [] in
      record {
        each = λ m s at. elim (front_or_last found added m s at) [
          | inl old ↦
              not_there log rs n d lt s s (by.each m s old) refl refl (none m s old) refl
          | inr last ↦
              subst (λ (t : PlaceRaces). IsCounted log (take (n + 1) rs) t) (sym last.1)
              (first_of_it log rs n d lt
              (All-weaker (λ (x : Race). HasPlace found (place_of log x))
              (λ (x : Race). is_at log (place_of log r) x ≡ false)
              (λ x has. apart (place_of log r) (place_of log x)
              (λ e. other has.1.place (place_of log r) (none has.0 has.1 has.2) (has.3 ∙ sym e)))
              (take n rs) by.all))
        ];
        all = All-more (λ (x : Race). HasPlace new (place_of log x)) rs n d lt
            (All-weaker (λ (x : Race). HasPlace found (place_of log x))
            (λ (x : Race). HasPlace new (place_of log x))
            (λ x has. (has.0, has.1, get_before found (added ∷ []) has.0 has.1 has.2, has.3))
            (take n rs) by.all)
            (length found, added, get_last found added, refl);
        once = λ i j p q before at next. elim (front_or_last found added i p at) [
          | inl old ↦ elim (front_or_last found added j q next) [
            | inl older ↦ by.once i j p q before old older
            | inr last ↦
                λ e. other p.place (place_of log r) (none i p old)
                (e ∙ ap (λ (t : PlaceRaces). t.place) last.1)
          ]
          | inr end ↦
              let place = slice_get_within new j q next in
              absurd (past_end added end.0 before place)
        ];
        order = λ i j p q before at next. elim (front_or_last found added i p at) [
          | inl old ↦ elim (front_or_last found added j q next) [
            | inl older ↦ by.order i j p q before old older
            | inr last ↦
                let first = first_before log rs n d lt p rise (by.each i p old) in
                let is = ap (λ (t : PlaceRaces). t.first.event) last.1 in
                omega arith
          ]
          | inr end ↦
              let place = slice_get_within new j q next in
              absurd (past_end added end.0 before place)
        ];
      }
    where
      past_end : {i j : ℕ} (x : PlaceRaces) → i ≡ length found → i < j → j < length (found ++ x ∷ []) → ⊥
      past_end x end before place = omega (arith, length_push found x)

-- ---- both

no_place : (test : PlaceRaces → Bool) (found : List PlaceRaces) → position test found ≡ None
    → (j : ℕ) (q : PlaceRaces) → slice_get found j ≡ Some q → test q ≡ false
no_place test found is j q at =
    let past : length found ≤ position_or_len test found =
    ltb-false (position_or_len test found) (length found)
    (go (nat_lt (position_or_len test found) (length found)) is) in
    let within = slice_get_within found j q at in
    sym (ap test (get_or_from_slice_get found j q q at))
    ∙ fails_before_first test found j q (omega arith)
  where
    go : (b : Bool) → cond b (Some (position_or_len test found)) None ≡ None → b ≡ false
    go true e = absurd cc
    go false e = refl

counted : (log : List Event) (rs : List Race) (n : ℕ) (d : Race) (found : List PlaceRaces)
    → n < length rs → Rises rs → AreByPlace log (take n rs) found
    → AreByPlace log (take (n + 1) rs) (with_race (place_of log (get_or rs n d)) (get_or rs n d) found)
counted log rs n d found lt rise by = go (position test found) refl
  where
    r : Race
    r = get_or rs n d

    test : PlaceRaces → Bool
    test = λ q. same_place q.place (place_of log r)

    go : (o : Option ℕ) → position test found ≡ o
        → AreByPlace log (take (n + 1) rs) (counted_at (place_of log r) r found o)
    go None is = new_one log rs n d lt found by rise (no_place test found is)
    go (Some k) is =
        let at = position-Some test found k (new_place (place_of log r) r) is in
        known log rs n d lt found by k (new_place (place_of log r) r) at.0 at.1

pub added : {log events : List Event} (rs : List Race) (n : ℕ) (d : Race) {found new : List PlaceRaces}
    {p : Place} → n < length rs → Rises rs → AreByPlace log (take n rs) found → events ≡ log
    → p ≡ place_of events (get_or rs n d) → new ≡ with_race p (get_or rs n d) found
    → AreByPlace log (take (n + 1) rs) new
added {log} rs n d {found = found} lt rise by same_log place is =
    let r = get_or rs n d in
    subst (λ (qs : List PlaceRaces). AreByPlace log (take (n + 1) rs) qs)
    (sym (is ∙ ap (λ (q : Place). with_race q r found)
    (place ∙ ap (λ (l : List Event). place_of l r) same_log)))
    (counted log rs n d found lt rise by)

pub none_yet : (log : List Event) (found : List PlaceRaces) → found ≡ [] → AreByPlace log [] found
none_yet log found none =
    subst (λ (qs : List PlaceRaces). AreByPlace log [] qs) (sym none)
    (record {
      each = λ i q at. absurd cc;
      all = λ k d lt. absurd (omega arith);
      once = λ i j p q lt at next. absurd cc;
      order = λ i j p q lt at next. absurd cc;
    })

-- no place has more races than there are
pub few : (log : List Event) (rs : List Race) (n : ℕ) (found : List PlaceRaces) (i : ℕ) (q : PlaceRaces)
    → AreByPlace log (take n rs) found → slice_get found i ≡ Some q → q.races ≤ n
few log rs n found i q by at =
    let counts = (by.each i q at).count in
    omega (arith, counts, count_by-le-length (is_at log q.place) (take n rs), length-take n rs)

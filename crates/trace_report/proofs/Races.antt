-- The races among verdicts, and the lines that tell them.
use Rattle.std.proofs.Common.{◌≡◌, ℕ, ◌+◌, ◌<◌, ◌≤◌, zero, suc, List, [], ◌∷◌, ◌++◌, length, take, get_or}
use Rattle.std.proofs.Common.{Option, Some, unwrap_or, count_by, refl, ap, sym, subst, ◌∙◌, arith}
use Rattle.std.specs.List.{flat_map}
use Rattle.std.proofs.lemmas.List.{flat_map_more, take_more, take_all}
use Rattle.std.proofs.lemmas.List.Sums.{sum_by-cons}
use Rattle.std.specs.Prelude.{cond, slice_get}
use Rattle.event_core.specs.declared.events.Event.{Event}
use Rattle.event_core.specs.declared.replies.Verdict.{Verdict}
use Rattle.event_core.specs.declared.replies.Verdict.TheVariants.{Clear, Racy}
use Rattle.rapid_text.specs.Tables.{Tables}
use Rattle.rapid_text.specs.Pages.{Puts}
use Rattle.rapid_text.proofs.PutsProperties.{put_both, put_same}
use Rattle.verdict_list.specs.declared.verdicts.Race.{Race}
use Rattle.verdict_list.specs.Judged.{races_from}
use Rattle.trace_report.specs.Races.{is_race}
use Rattle.trace_report.specs.Reports.{race_line, race_lines, AreWithin}

-- ---- their number

pub races_counted : (j : ℕ) (vs : List Verdict) → length (races_from j vs) ≡ count_by is_race vs
races_counted j [] = refl
races_counted j (Clear ∷ vs) = let rest = races_counted (j + 1) vs in omega arith
races_counted j (Racy i ∷ vs) =
    let rest = races_counted (j + 1) vs in
    let one : count_by is_race (Racy i ∷ vs) ≡ 1 + count_by is_race vs =
    sum_by-cons (λ (v : Verdict). cond (is_race v) 1 0) (Racy i) vs in
    omega arith

-- ---- their events

-- the verdicts from index j on are on events below n, and so is each event that they race with
races_below : (n j : ℕ) (vs : List Verdict) → j + length vs ≤ n
    → ((k i : ℕ) → slice_get vs k ≡ Some (Racy i) → i < n)
    → (k : ℕ) (r : Race) → slice_get (races_from j vs) k ≡ Some r → (r.event < n) × (r.with < n)
races_below n j [] le each k r at = absurd (cc)
races_below n j (Clear ∷ vs) le each k r at =
    races_below n (j + 1) vs (omega arith) (λ m. each (suc m)) k r at
races_below n j (Racy i ∷ vs) le each zero r at =
    let first : Race = record { event = j; with = i } in
    let is : first ≡ r = ap (λ (o : Option Race). unwrap_or o first) at in
    let before : j < n = omega arith in
    subst (λ (q : Race). (q.event < n) × (q.with < n)) is (before, each 0 i refl)
races_below n j (Racy i ∷ vs) le each (suc k) r at =
    races_below n (j + 1) vs (omega arith) (λ m. each (suc m)) k r at

-- a race is between events of the log
pub races_within : {log : List Event} {vs : List Verdict} {rs : List Race} (k : ℕ) {r : Race}
    → AreWithin log vs → rs ≡ races_from 0 vs → slice_get rs k ≡ Some r
    → (r.event < length log) × (r.with < length log)
races_within {log} {vs} k {r = r} h is at =
    let all = h.all in
    races_below (length log) 0 vs (omega arith) h.each k r
    (ap (λ (t : List Race). slice_get t k) (sym is) ∙ at)

-- ---- their lines

-- the lines of races, put together
abbrev pub lines_of : Tables → List Event → List Race → List ℕ
lines_of names log = flat_map (λ r. race_line names log r.event (Racy r.with))

-- a line for each racy verdict is a line for each race
pub races_lines : (names : Tables) (log : List Event) (j : ℕ) (vs : List Verdict)
    → lines_of names log (races_from j vs) ≡ race_lines names log j vs
races_lines names log j [] = refl
races_lines names log j (Clear ∷ vs) = races_lines names log (j + 1) vs
races_lines names log j (Racy i ∷ vs) =
    ap (λ (t : List ℕ). race_line names log j (Racy i) ++ t) (races_lines names log (j + 1) vs)

-- one line more
pub lines_at : {X : Type 0} (line : X → List ℕ) (xs : List X) (k : ℕ) (d : X) → k < length xs
    → flat_map line (take k xs) ++ line (get_or xs k d) ≡ flat_map line (take (k + 1) xs)
lines_at line xs k d lt =
    flat_map_more line [] (take k xs) (get_or xs k d) ∙ ap (flat_map line) (sym (take_more xs k d lt))

-- the lines of the first k elements were put, and then the line of one more
pub put_more : {X : Type 0} (line : X → List ℕ) (xs : List X) (k : ℕ) (d : X) {a b c : Option (List ℕ)}
    {p q r : List ℕ} → k < length xs → Puts a p b q (flat_map line (take k xs))
    → Puts b q c r (line (get_or xs k d)) → Puts a p c r (flat_map line (take (k + 1) xs))
put_more line xs k d lt before more = put_same (lines_at line xs k d lt) (put_both before more)

-- the lines of all elements were put
pub put_all : {X : Type 0} (line : X → List ℕ) (xs : List X) (k : ℕ) {a b : Option (List ℕ)} {p q : List ℕ}
    → length xs ≤ k → Puts a p b q (flat_map line (take k xs)) → Puts a p b q (flat_map line xs)
put_all line xs k past h = put_same (ap (flat_map line) (take_all k xs past)) h

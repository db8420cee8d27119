-- What holds of each pair of locations of races.
use Rattle.std.proofs.Common.{◌≡◌, ℕ, ◌+◌, ◌<◌, ◌≤◌, List, [], ◌∷◌, Option, Some, None, All, refl, sym}
use Rattle.std.proofs.Common.{◌∙◌, ap, subst, fold, get_or, length, position, take, arith}
use Rattle.std.proofs.lemmas.List.Elements.{All-get_or, All-head, All-nil, All-push, All-set, All-tail}
use Rattle.std.proofs.lemmas.List.Elements.{All-weaker}
use Rattle.std.proofs.lemmas.List.Quantifiers.{position-Some}
use Rattle.std.proofs.lemmas.List.Sums.{fold_more}
use Rattle.event_core.specs.declared.events.Event.{Event}
use Rattle.verdict_list.specs.declared.verdicts.Race.{Race}
use Rattle.witness_report.specs.declared.pairs.Pair.{Pair}
use Rattle.witness_report.specs.declared.pairs.Sites.{Sites}
use Rattle.witness_report.specs.Pairs.{counted_at, new_pair, one_more, pairs_of, same_sites, sites_of}
use Rattle.witness_report.specs.Pairs.{with_race}

-- one race more
abbrev step : List Event → List Pair → Race → List Pair
step log pairs r = with_race (sites_of log r) r pairs

-- no races have no pairs
pub pairs_of_none : (log : List Event) → pairs_of log [] ≡ []
unfolding pairs_of
pairs_of_none log = refl

pub pairs_of_more : (log : List Event) (rs : List Race) (n : ℕ) (d : Race) → n < length rs
    → with_race (sites_of log (get_or rs n d)) (get_or rs n d) (pairs_of log (take n rs))
    ≡ pairs_of log (take (n + 1) rs)
unfolding pairs_of
pairs_of_more log rs n d lt = sym (fold_more (step log) [] rs n d lt)

-- the pairs of the races, one race more
pub race_added : (log : List Event) (rs : List Race) (n : ℕ) (d : Race) {s : Sites} {old new : List Pair}
    → n < length rs → old ≡ pairs_of log (take n rs) → s ≡ sites_of log (get_or rs n d)
    → new ≡ with_race s (get_or rs n d) old → new ≡ pairs_of log (take (n + 1) rs)
race_added log rs n d {s} {old} lt before between added =
    added ∙ ap (with_race s (get_or rs n d)) before
    ∙ ap (λ (t : Sites). with_race t (get_or rs n d) (pairs_of log (take n rs))) between
    ∙ pairs_of_more log rs n d lt

-- what holds of the pairs before, or of those that are new or counted once more, holds of each afterwards
with_race_all : (P Q : Pair → Type 0) (s : Sites) (r : Race) (ps : List Pair) → ((p : Pair) → P p → Q p)
    → ((p : Pair) → P p → Q (one_more p)) → Q (new_pair s r) → All P ps → All Q (with_race s r ps)
with_race_all P Q s r ps keep more new all = go (position (λ p. same_sites p.sites s) ps) refl
  where
    kept : All Q ps
    kept = All-weaker P Q keep ps all

    go : (o : Option ℕ) → position (λ p. same_sites p.sites s) ps ≡ o → All Q (counted_at s r ps o)
    go None is = All-push Q ps (new_pair s r) kept new
    go (Some i) is =
        let within = (position-Some (λ (p : Pair). same_sites p.sites s) ps i (new_pair s r) is).0 in
        All-set Q ps i (one_more (get_or ps i (new_pair s r)))
        (more (get_or ps i (new_pair s r)) (All-get_or P ps i (new_pair s r) within all)) kept

-- no pair has more races than there are
abbrev AtMost : ℕ → Pair → Type 0
AtMost n p = p.races ≤ n

-- no pair has more races than were counted
pub few_races : (log : List Event) (rs : List Race) (n : ℕ) → n < length rs
    → All (AtMost n) (pairs_of log (take n rs)) → All (AtMost (n + 1)) (pairs_of log (take (n + 1) rs))
few_races log rs n lt all =
    let d : Race = record { event = 0; with = 0 } in
    let r = get_or rs n d in
    subst (All (AtMost (n + 1))) (pairs_of_more log rs n d lt)
    (with_race_all (AtMost n) (AtMost (n + 1)) (sites_of log r) r (pairs_of log (take n rs))
    (λ p le. omega (arith, le)) (λ p le. omega (arith, le)) (omega arith) all)

-- what holds of each race holds of the first race of each pair
pub first_of_pairs : (P : Race → Type 0) (log : List Event) (rs : List Race) → All P rs
    → All (λ (p : Pair). P p.first) (pairs_of log rs)
unfolding pairs_of
first_of_pairs P log rs all = go [] rs (All-nil (λ (p : Pair). P p.first)) all
  where
    go : (ps : List Pair) (rs : List Race) → All (λ (p : Pair). P p.first) ps → All P rs
        → All (λ (p : Pair). P p.first) (fold (step log) ps rs)
    go ps [] h k = h
    go ps (r ∷ rs) h k =
        go (step log ps r) rs
        (with_race_all (λ (p : Pair). P p.first) (λ (p : Pair). P p.first) (sites_of log r) r ps (λ p q. q)
        (λ p q. q) (All-head P r rs k) h)
        (All-tail P r rs k)

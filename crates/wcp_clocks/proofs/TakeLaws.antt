-- A thread's strict clock takes one clock after another.
use Rattle.std.proofs.Common.{◌≡◌, ℕ, zero, suc, ◌+◌, ◌*◌, ◌≤◌, List, [], ◌∷◌, ◌++◌, length, map, cond}
use Rattle.std.proofs.Common.{max, refl, sym, ap, ap₂, ◌∙◌, arith}
use Rattle.std.proofs.lemmas.List.{length_push, append-nil}
use Rattle.std.proofs.lemmas.Bool.{ne_eqb}
use Rattle.event_core.specs.Rows.{join, with_row}
use Rattle.event_core.proofs.RowsAfterProperties.{row_same}
use Rattle.hb_clocks.specs.Rows.{rows_of}
use Rattle.hb_clocks.specs.Work.{Done}
use Rattle.event_core.specs.declared.events.AccessKind.{AccessKind}
use Rattle.event_core.specs.declared.events.AccessKind.TheVariants.{Read, Write}
use Rattle.event_core.specs.Closed.{Closed}
use Rattle.section_sum.specs.Newest.{section}
use Rattle.section_sum.specs.Sums.{Sums, others_of, sources_of}
use Rattle.wcp_clocks.specs.Met.{release_at, met_clocks, met_under, joined_all, joins_under}
use Rattle.wcp_clocks.specs.MetReleases.{Released, released_at}
use Rattle.wcp_laws.specs.Step.{join_all}
use Rattle.hb_clocks.proofs.WithRowProperties.{row_kept, row_again}
use Rattle.wcp_clocks.proofs.Rows.{join_nothing}
use Rattle.wcp_clocks.specs.StrictRows.{StrictTables, SameRoom}
use Rattle.wcp_clocks.proofs.RowsKept.{room_same, room_then}

-- what has been taken of the source, where the rest is still to be taken
pub record IsTaking (s : Sums) (closed : ℕ → List Closed) (l x t : ℕ) (k : AccessKind)
    (old now : StrictTables) (before after : Done) (rest : List ℕ) : Type 0 where
  pub shape : rows_of now.thread ≡ with_row t (rows_of now.thread t) (rows_of old.thread)
  pub joined : (u : ℕ) → joined_all (closed l) (rows_of now.thread t) rest u
      ≡ join (rows_of old.thread t) (met_under (met_clocks s closed) x k t l) u
  pub lock : rows_of now.lock ≡ rows_of old.lock
  pub kept : SameRoom old now
  pub joins : after.joins + length rest ≤ before.joins + 2
  pub made : after.joins + length rest ≡ before.joins + length (sources_of s l x k t)
  pub comparisons : after.comparisons ≡ before.comparisons

-- the same, where the sections are left as releases, whose clocks have numbers of so many threads at most
pub record IsTakingAll (s : Sums) (closed : ℕ → List Closed) (l x t : ℕ) (k : AccessKind)
    (old now : StrictTables) (before after : Done) (rest : List Released) (most width : ℕ) : Type 0 where
  pub numbers : List ℕ
  pub are : map (released_at (closed l)) numbers ≡ rest
  pub taking : IsTaking s closed l x t k old now before after numbers
  pub threads : most ≡ width

-- one of them is next
pub record IsTakingNext (s : Sums) (closed : ℕ → List Closed) (l x t : ℕ) (k : AccessKind)
    (old now : StrictTables) (before after : Done) (next : Released) (rest : List Released) : Type 0 where
  pub number : ℕ
  pub others : List ℕ
  pub taking : IsTaking s closed l x t k old now before after (number ∷ others)
  pub here : released_at (closed l) number ≡ next
  pub there : map (released_at (closed l)) others ≡ rest

head_or : Released → List Released → Released
head_or r [] = r
head_or r (q ∷ qs) = q

tail_of : List Released → List Released
tail_of [] = []
tail_of (q ∷ qs) = qs

module _ {s : Sums} {closed : ℕ → List Closed} {l x t : ℕ} {k : AccessKind} {old now : StrictTables}
    {before after : Done} {rest : List Released} {most width : ℕ} where
  -- the next section's clock is to be taken
  pub taking_next : (q : Released) (qs : List Released)
      → IsTakingAll s closed l x t k old now before after rest most width → rest ≡ q ∷ qs
      → IsTakingNext s closed l x t k old now before after q qs
  unfolding head_or tail_of
  taking_next q qs is more = go is.numbers (is.are ∙ more) is.taking
    where
      go : (ns : List ℕ) → map (released_at (closed l)) ns ≡ q ∷ qs
          → IsTaking s closed l x t k old now before after ns
          → IsTakingNext s closed l x t k old now before after q qs
      go [] e taking = let short = ap length e in absurd (omega arith)
      go (n ∷ ns) e taking = record {
        number = n;
        others = ns;
        taking = taking;
        here = ap (head_or q) e;
        there = ap tail_of e;
      }

  -- where none is left, all have been taken
  pub taking_ends : IsTakingAll s closed l x t k old now before after rest most width → rest ≡ []
      → IsTaking s closed l x t k old now before after []
  taking_ends is none = go is.numbers (is.are ∙ none) is.taking
    where
      go : (ns : List ℕ) → map (released_at (closed l)) ns ≡ []
          → IsTaking s closed l x t k old now before after ns
          → IsTaking s closed l x t k old now before after []
      go [] e taking = taking
      go (n ∷ ns) e taking = let long = ap length e in absurd (omega arith)

-- the sections that an access meets, joined
section_joined : (qs : List Closed) (f : ℕ → ℕ) (n : ℕ) (ns : List ℕ)
    → joined_all qs f (section n ++ ns) ≡ joined_all qs (join f (release_at qs n)) ns
section_joined qs f zero ns = ap (λ (g : ℕ → ℕ). joined_all qs g ns) (sym (join_nothing f))
section_joined qs f (suc n) ns =
    ap (λ b. joined_all qs f (cond b [] (suc n ∷ []) ++ ns)) (ne_eqb (suc n) 0 (λ e. absurd (omega
    (arith, e))))

-- the clocks of the sections that an access meets, joined one after another, are those met under the lock
pub sources_joined : (s : Sums) (closed : ℕ → List Closed) (l x t : ℕ) (k : AccessKind) (f : ℕ → ℕ) (u : ℕ)
    → joined_all (closed l) f (sources_of s l x k t) u ≡ join f (met_under (met_clocks s closed) x k t l) u
unfolding sources_of
sources_joined s closed l x t Read f u =
    ap (λ ns. joined_all (closed l) f ns u) (sym (append-nil (section (others_of s l x Write t))))
    ∙ ap (λ (g : ℕ → ℕ). g u) (section_joined (closed l) f (others_of s l x Write t) [])
sources_joined s closed l x t Write f u =
    ap (λ (g : ℕ → ℕ). g u) (section_joined (closed l) f stores (section loads))
    ∙ ap (λ ns. joined_all (closed l) (join f (release_at (closed l) stores)) ns u)
    (sym (append-nil (section loads)))
    ∙ ap (λ (g : ℕ → ℕ). g u)
    (section_joined (closed l) (join f (release_at (closed l) stores)) loads [])
    ∙ either (f u) (release_at (closed l) stores u) (release_at (closed l) loads u)
  where
    stores : ℕ
    stores = others_of s l x Write t

    loads : ℕ
    loads = others_of s l x Read t

    either : (a b c : ℕ) → max (max a b) c ≡ max a (max c b)
    either a b c = omega arith

module _ {s : Sums} {closed : ℕ → List Closed} {l x t : ℕ} {k : AccessKind} {old : StrictTables}
    {before : Done} where
  -- before the first clock nothing has been taken
  pub taking_begins : (rest : List ℕ) → rest ≡ sources_of s l x k t → length rest ≤ 2
      → IsTaking s closed l x t k old old before before rest
  taking_begins rest is few = record {
    shape = sym (row_kept t _ (rows_of old.thread) refl);
    joined = λ u. ap (λ ns. joined_all (closed l) (rows_of old.thread t) ns u) is
        ∙ sources_joined s closed l x t k (rows_of old.thread t) u;
    lock = refl;
    kept = room_same old;
    joins = omega arith;
    made = ap (λ ns. before.joins + length ns) is;
    comparisons = refl;
  }

  -- the next section's release is taken
  pub taking_on : {now new : StrictTables} {after done : Done} {n : ℕ} {rest : List ℕ}
      → IsTaking s closed l x t k old now before after (n ∷ rest)
      → rows_of new.thread ≡ with_row t (join (rows_of now.thread t) (release_at (closed l) n))
      (rows_of now.thread)
      → rows_of new.lock ≡ rows_of now.lock → SameRoom now new
      → done ≡ record after { joins = after.joins + 1 }
      → IsTaking s closed l x t k old new before done rest
  taking_on {now} {new} {after} {done} {n} {rest} is threads lock kept work = record {
    shape = threads ∙ ap (with_row t taken) is.shape ∙ row_again t taken (rows_of now.thread t)
        (rows_of old.thread)
        ∙ ap (λ g. with_row t g (rows_of old.thread)) (sym own);
    joined = λ u. ap (λ (g : ℕ → ℕ). joined_all (closed l) g rest u) own ∙ is.joined u;
    lock = lock ∙ is.lock;
    kept = room_then is.kept kept;
    joins = (let w = ap (λ (d : Done). d.joins) work in let j = is.joins in omega arith);
    made = (let w = ap (λ (d : Done). d.joins) work in let j = is.made in omega arith);
    comparisons = ap (λ (d : Done). d.comparisons) work ∙ is.comparisons;
  }
    where
      taken : ℕ → ℕ
      taken = join (rows_of now.thread t) (release_at (closed l) n)

      own : rows_of new.thread t ≡ taken
      own = ap (λ (f : ℕ → ℕ → ℕ). f t) threads ∙ row_same t taken (rows_of now.thread)

-- what has been taken under the first of the locks
pub record HasTaken (s : Sums) (closed : ℕ → List Closed) (x : ℕ) (k : AccessKind) (t : ℕ)
    (old now : StrictTables) (before after : Done) (locks : List ℕ) : Type 0 where
  pub threads : rows_of now.thread
      ≡ with_row t (join (rows_of old.thread t) (join_all (met_under (met_clocks s closed) x k t) locks))
      (rows_of old.thread)
  pub lock : rows_of now.lock ≡ rows_of old.lock
  pub kept : SameRoom old now
  pub joins : after.joins ≤ before.joins + 2 * length locks
  pub made : after.joins ≡ before.joins + joins_under s x k t locks
  pub comparisons : after.comparisons ≡ before.comparisons

join_again : (a b c : ℕ → ℕ) → join (join a b) c ≡ join a (join b c)
join_again a b c i u = at (a u) (b u) (c u) i
  where
    at : (p q r : ℕ) → max (max p q) r ≡ max p (max q r)
    at p q r = omega arith

-- the clock of one lock more
join_all_more : (source : ℕ → ℕ → ℕ) (f : ℕ → ℕ) (locks : List ℕ) (l : ℕ)
    → join f (join_all source (locks ++ l ∷ [])) ≡ join (join f (join_all source locks)) (source l)
join_all_more source f [] l =
    ap (join f) (join_nothing (source l)) ∙ ap (λ g. join g (source l)) (sym (join_nothing f))
join_all_more source f (m ∷ ms) l =
    sym (join_again f (source m) (join_all source (ms ++ l ∷ [])))
    ∙ join_all_more source (join f (source m)) ms l
    ∙ ap (λ g. join g (source l)) (join_again f (source m) (join_all source ms))

-- and its joins
joins_more : (s : Sums) (x : ℕ) (k : AccessKind) (t : ℕ) (locks : List ℕ) (l : ℕ)
    → joins_under s x k t (locks ++ l ∷ []) ≡ joins_under s x k t locks + length (sources_of s l x k t)
joins_more s x k t [] l = omega arith
joins_more s x k t (m ∷ ms) l = let rest = joins_more s x k t ms l in omega arith

module _ {s : Sums} {closed : ℕ → List Closed} {x : ℕ} {k : AccessKind} {t : ℕ} {old : StrictTables}
    {before : Done} where
  -- before the first lock nothing has been taken
  pub taken_begins : HasTaken s closed x k t old old before before []
  taken_begins = record {
    threads = sym (row_kept t _ (rows_of old.thread) refl)
        ∙ ap (λ g. with_row t g (rows_of old.thread)) (sym (join_nothing (rows_of old.thread t)));
    lock = refl;
    kept = room_same old;
    joins = omega arith;
    made = omega arith;
    comparisons = refl;
  }

  -- with one more lock's clocks taken
  pub taken_on : {now new : StrictTables} {after done : Done} (locks : List ℕ) (l : ℕ)
      → HasTaken s closed x k t old now before after locks
      → rows_of new.thread
      ≡ with_row t (join (rows_of now.thread t) (met_under (met_clocks s closed) x k t l))
      (rows_of now.thread)
      → rows_of new.lock ≡ rows_of now.lock → SameRoom now new
      → done.joins ≤ after.joins + 2
      → done.joins ≡ after.joins + length (sources_of s l x k t)
      → done.comparisons ≡ after.comparisons
      → HasTaken s closed x k t old new before done (locks ++ l ∷ [])
  taken_on {now} {new} {after} {done} locks l is threads lock kept joins exact comparisons = record {
    threads = threads ∙ ap₂ (λ g f. with_row t g f) own is.threads
        ∙ row_again t _ _ (rows_of old.thread)
        ∙ ap (λ g. with_row t g (rows_of old.thread))
        (sym (join_all_more source (rows_of old.thread t) locks l));
    lock = lock ∙ is.lock;
    kept = room_then is.kept kept;
    joins = (let n = length_push locks l in let j = is.joins in omega arith);
    made = (let j = is.made in let more = joins_more s x k t locks l in omega arith);
    comparisons = comparisons ∙ is.comparisons;
  }
    where
      source : ℕ → ℕ → ℕ
      source = met_under (met_clocks s closed) x k t

      taken : rows_of now.thread t ≡ join (rows_of old.thread t) (join_all source locks)
      taken = ap (λ (f : ℕ → ℕ → ℕ). f t) is.threads
          ∙ row_same t (join (rows_of old.thread t) (join_all source locks)) (rows_of old.thread)

      own : join (rows_of now.thread t) (source l)
          ≡ join (join (rows_of old.thread t) (join_all source locks)) (source l)
      own = ap (λ (g : ℕ → ℕ). join g (source l)) taken

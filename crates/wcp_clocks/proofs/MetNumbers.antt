-- The numbers of the sections that an access meets.
use Rattle.std.proofs.Common.{◌≡◌, ℕ, zero, suc, ◌<◌, ◌≤◌, List, [], ◌∷◌, length, Option, Some, None}
use Rattle.std.proofs.Common.{cond, sym, subst, arith}
use Rattle.std.specs.Iterator.{YieldsFirst}
use Rattle.std.proofs.lemmas.Bool.{ne_eqb}
use Rattle.std.proofs.lemmas.List.Elements.{All-nil, All-cons, All-append, All-tail}
use Rattle.event_core.specs.declared.events.AccessKind.{AccessKind}
use Rattle.event_core.specs.declared.events.AccessKind.TheVariants.{Read, Write}
use Rattle.event_core.specs.Closed.{Closed}
use Rattle.section_sum.specs.declared.sources.Sources.{Sources}
use Rattle.section_sum.specs.Newest.{section}
use Rattle.section_sum.specs.Sources.{left}
use Rattle.section_sum.specs.Sums.{Sums, others_of, sources_of}
use Rattle.wcp_clocks.specs.Met.{AreClosed, AreNumbers}

section_closed : (qs : List Closed) (n : ℕ) → n ≤ length qs → AreClosed qs (section n)
section_closed qs zero le = All-nil (λ m. (0 < m) × (m ≤ length qs))
section_closed qs (suc n) le =
    subst (λ b. AreClosed qs (cond b [] (suc n ∷ []))) (sym (ne_eqb (suc n) 0 (λ e. absurd (omega
    (arith, e)))))
    (All-cons (λ m. (0 < m) × (m ≤ length qs)) (suc n) [] (omega arith, le)
    (All-nil (λ m. (0 < m) × (m ≤ length qs))))

both_closed : (s : Sums) (closed : ℕ → List Closed) (l x t : ℕ) (k : AccessKind) → AreNumbers s closed
    → AreClosed (closed l) (sources_of s l x k t)
unfolding sources_of
both_closed s closed l x t Read are = section_closed (closed l) (others_of s l x Write t) (are l x Write t)
both_closed s closed l x t Write are =
    All-append (λ m. (0 < m) × (m ≤ length (closed l)))
    (section (others_of s l x Write t)) (section (others_of s l x Read t))
    (section_closed (closed l) (others_of s l x Write t) (are l x Write t))
    (section_closed (closed l) (others_of s l x Read t) (are l x Read t))

-- are those of closed sections
pub sources_closed : (s : Sums) (closed : ℕ → List Closed) (l x t : ℕ) (k : AccessKind) (ns : List ℕ)
    → ns ≡ sources_of s l x k t → AreNumbers s closed → AreClosed (closed l) ns
sources_closed s closed l x t k ns is are =
    subst (AreClosed (closed l)) (sym is) (both_closed s closed l x t k are)

-- and so are those that are left after a call
pub closed_after : (qs : List Closed) (old new : Sources) (result : Option ℕ)
    → YieldsFirst left old result new → AreClosed qs (left old) → AreClosed qs (left new)
closed_after qs old new None none are =
    subst (AreClosed qs) (sym none.1) (All-nil (λ n. (0 < n) × (n ≤ length qs)))
closed_after qs old new (Some n) some are =
    All-tail (λ m. (0 < m) × (m ≤ length qs)) n (left new) (subst (AreClosed qs) some are)

-- Each step at a channel keeps its rule.
use Rattle.std.proofs.Common.{◌≡◌, ℕ, zero, suc, List, [], ◌∷◌, ◌++◌, length, set, sym, refl, ap, ◌∙◌, subst}
use Rattle.std.proofs.Common.{Option, Some, None, ⊎_elim, length-set, arith}
use Rattle.std.specs.List.{AllByRecursion}
use mathlib.Core.Option.{some, some-ne-none, some-injective}
use lib.ListN.{get_elem?}
use Rattle.crossbeam_channel.specs.Fifo.{Pushes, Pops, Forks}
use Rattle.atomic_table.proofs.Lists.{at_set, set_again}
use Rattle.event_core.specs.declared.ids.ThreadId.{ThreadId}
use Rattle.log_pass.specs.declared.views.PassView.{PassView}
use Rattle.pass_channel.specs.declared.rule.Address.{Address}
use Rattle.pass_channel.specs.Posts.{nobody, somebody, one_more, MayGo, Posted}

module _ (Good : ThreadId → PassView → Type 0) where
  all_snoc : (P : PassView → Type 0) (xs : List PassView) (x : PassView) → AllByRecursion P xs → P x
      → AllByRecursion P (xs ++ x ∷ [])
  all_snoc P [] x all here = (here, tt)
  all_snoc P (y ∷ xs) x all here = (all.0, all_snoc P xs x all.1 here)

  -- a pass that may go to the channel's thread is sent
  pub sends : (n seat : ℕ) (t : ThreadId) (v : Address) (x : PassView) → v ≡ somebody t → Good t x
      → Pushes (Posted Good) n seat v x (λ w. w ≡ v)
  sends n seat t v x is good items views room h at =
      let to : h.to ≡ Some t = sym (h.known seat v at) ∙ ap (λ (a : Address). a.to) is in
      let may : MayGo Good h.to x = subst (λ (o : Option ThreadId). MayGo Good o x) (sym to) good in (
        v,
        subst (λ l. Posted Good (items ++ x ∷ []) l) (sym (set_again views seat v at)) (record {
          to = h.to;
          known = h.known;
          good = all_snoc (MayGo Good h.to) items x h.good may;
          one_end = h.one_end;
        }),
        refl,
      )

  -- the end by which a pass came out still knows for whom the channel is
  still_known : (views : List Address) (seat : ℕ) (v : Address) (to : Option ThreadId)
      → ((n : ℕ) (w : Address) → get_elem? views n ≡ some w → w.to ≡ to) → get_elem? views seat ≡ some v
      → (n : ℕ) (w : Address) → get_elem? (set views seat (one_more v)) n ≡ some w → w.to ≡ to
  still_known views seat v to known at n w there =
      ⊎_elim (λ here. sym (ap (λ (a : Address). a.to) here.1) ∙ known seat v at) (λ other. known n w other.1)
      (at_set views seat n (one_more v) w there)

  -- what is received is a pass that may go to the channel's thread
  pub receives : (seat : ℕ) (v : Address)
      → Pops (Posted Good) seat v (λ x w. (w ≡ one_more v) × MayGo Good v.to x)
  receives seat v x items views h at = (
    one_more v,
    record {
      to = h.to;
      known = still_known views seat v h.to h.known at;
      good = h.good.1;
      one_end = λ none. length-set views seat (one_more v) ∙ h.one_end none;
    },
    (refl, subst (λ (o : Option ThreadId). MayGo Good o x) (sym (h.known seat v at)) h.good.0),
  )

  none_there : (items : List PassView) → AllByRecursion (MayGo Good None) items → items ≡ []
  none_there [] all = refl
  none_there (x ∷ xs) all = absurd all.0

  both_know : (t : ThreadId) (seat : ℕ) (v : Address)
      → get_elem? (somebody t ∷ somebody t ∷ []) seat ≡ some v → v.to ≡ Some t
  both_know t zero v at = ap (λ (a : Address). a.to) (sym (some-injective (somebody t) v at))
  both_know t (suc zero) v at = ap (λ (a : Address). a.to) (sym (some-injective (somebody t) v at))
  both_know t (suc (suc n)) v at = absurd (some-ne-none v (sym at))

  two_ends : (views : List Address) (seat : ℕ) (t : ThreadId) (v : Address)
      → get_elem? views seat ≡ some v → length views ≡ 1
      → set views seat (somebody t) ++ somebody t ∷ [] ≡ somebody t ∷ somebody t ∷ []
  two_ends [] seat t v at one = absurd (omega arith)
  two_ends (y ∷ []) zero t v at one = refl
  two_ends (y ∷ []) (suc n) t v at one = absurd (some-ne-none v (sym at))
  two_ends (y ∷ z ∷ l) seat t v at one = absurd (omega arith)

  -- the one end becomes two, which know for whom the channel is
  pub divides : (seat : ℕ) (t : ThreadId) (v : Address) → v ≡ nobody
      → Forks (Posted Good) seat v (somebody t) (somebody t)
  divides seat t v is items views h at =
      let to : h.to ≡ None = sym (h.known seat v at) ∙ ap (λ (a : Address). a.to) is in
      let empty : items ≡ []
      = none_there items (subst (λ (o : Option ThreadId). AllByRecursion (MayGo Good o) items) to h.good) in
      let both : Posted Good [] (somebody t ∷ somebody t ∷ [])
      = record { to = Some t; known = both_know t; good = tt; one_end = λ e. absurd (cc e) } in
      subst (λ l. Posted Good items l) (sym (two_ends views seat t v at (h.one_end to)))
      (subst (λ l. Posted Good l (somebody t ∷ somebody t ∷ [])) (sym empty) both)

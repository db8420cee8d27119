-- What a well-formed log gives in numbers alone.
use Rattle.std.proofs.Common.{◌≡◌, ◌≢◌, ℕ, ◌<◌, ◌≤◌, ◌+◌, ◌-◌, List, [], ◌∷◌, ◌++◌, Bool, false, true}
use Rattle.std.proofs.Common.{length, cond, refl, sym, ap, subst, ◌∙◌, arith, inl, inr, ◌⊎◌, None, nat_eq}
use Rattle.std.proofs.Common.{count_by, take}
use Rattle.std.proofs.lemmas.Bool.{cases_lt, eq-eqb}
use Rattle.std.proofs.lemmas.List.Sums.{count_by-le-length, sum_by-take-le}
use Rattle.std.proofs.lemmas.Option.{slice_get_within}
use Rattle.std.proofs.Math.Seq.{take-take, take-length}
use Rattle.event_core.specs.declared.ids.ThreadId.{ThreadId}
use Rattle.event_core.specs.declared.ids.LockId.{LockId}
use Rattle.event_core.specs.declared.events.Event.{Event}
use Rattle.event_core.specs.declared.events.Op.{Op}
use Rattle.event_core.specs.declared.events.Op.TheVariants.{Acquire, Fork, Join}
use Rattle.event_core.specs.declared.replies.Refusal.TheVariants.{SelfTarget}
use Rattle.event_core.specs.declared.bounds.Limits.{Limits}
use Rattle.event_core.specs.Log.{depth, Of, acquires}
use Rattle.event_core.specs.Order.{Po, Hb}
use Rattle.event_core.specs.Orderly.{Orderly}
use Rattle.event_core.specs.Refusal.{WellFormed, self_target}
use Rattle.event_core.specs.Count.{events_of, Past, LockPast}
use Rattle.event_core.specs.Rows.{no_clock, Counted}
use Rattle.event_core.proofs.OrderProperties.{chain_trans, hb_of_po, hb_trans}
use Rattle.event_core.proofs.CountsProperties.{rank_below, at_rank}
use Rattle.event_core.proofs.WellFormedProperties.{well_formed_last}
use Rattle.event_core.proofs.OrderlyProperties.{orderly, legal_reasons, when_none}
use Rattle.event_core.proofs.EffectProperties.{depth_same, depth_up}
use Rattle.event_core.proofs.PastProperties.{past_latest}
use Rattle.hb_clocks.specs.State.{HbState, empty}
use Rattle.hb_clocks.specs.Standing.{StandsFor, IsAlone, IsApart, AdmitsLegal, FewInLog}
use Rattle.hb_clocks.specs.Marks.{IsLatest, MarkedEvent, Names}

-- two threads with the lock would be one
alone : (limits : Limits) (log : List Event) (e : Event) (s : HbState) → WellFormed limits (log ++ e ∷ [])
    → StandsFor log s
    → (l : LockId) → e.op ≡ Acquire l → (u : ThreadId) → u.0 ≢ e.thread.0 → s.depth u.0 l.0 ≡ 0
alone limits log e s w st l o u other = st.depths u l ∙ go (cases_lt 0 (depth log u l))
  where
    ord : Orderly (log ++ e ∷ [])
    ord = orderly limits (log ++ e ∷ []) w

    all : take (length (log ++ e ∷ [])) (log ++ e ∷ []) ≡ log ++ e ∷ []
    all = take-length (log ++ e ∷ [])

    mine : 0 < depth (log ++ e ∷ []) e.thread l
    mine = (let up = depth_up log e l ord o in omega arith)

    kept : depth (log ++ e ∷ []) u l ≡ depth log u l
    kept = depth_same log e u l (λ t p. other (ap (λ (v : ThreadId). v.0) (sym t)))
        (λ t p. other (ap (λ (v : ThreadId). v.0) (sym t)))

    go : (0 < depth log u l) ⊎ (depth log u l ≤ 0) → depth log u l ≡ 0
    go (inr z) = omega arith
    go (inl h) =
        let theirs : 0 < depth (log ++ e ∷ []) u l = omega (arith, kept) in
        absurd (other (ap (λ (v : ThreadId). v.0) (ord.one_holder (length (log ++ e ∷ [])) u e.thread l
        (subst (λ xs. 0 < depth xs u l) (sym all) theirs)
        (subst (λ xs. 0 < depth xs e.thread l) (sym all) mine))))

apart : (u v : ThreadId) → nat_eq v.0 u.0 ≡ false → v.0 ≢ u.0
apart u v f e = let t : nat_eq v.0 u.0 ≡ true = eq-eqb v.0 u.0 e in let q : true ≡ false = sym t ∙ f in cc

-- the law: clocks that stand for a log admit each legal event
pub admits_legal : AdmitsLegal
admits_legal limits log e s w st = record {
  alone = by_op e.op refl;
  apart = by_self e.op (legal_reasons limits log e (well_formed_last limits log e w)).no_self;
}
  where
    by_op : (o : Op) → e.op ≡ o → IsAlone s e.thread o
    by_op (Acquire l) p = alone limits log e s w st l p
    by_op _ p = tt

    by_self : (o : Op) → self_target e.thread o ≡ None → IsApart e.thread o
    by_self (Fork u) p = apart e.thread u (when_none _ SelfTarget p)
    by_self (Join u) p = apart e.thread u (when_none _ SelfTarget p)
    by_self _ p = tt

-- a thread has at most all events of the log
pub events_within : (log : List Event) (u : ThreadId) → events_of log u ≤ length log
unfolding events_of
events_within log u = count_by-le-length (λ (e : Event). nat_eq e.thread.0 u.0) log

depth_within : (log : List Event) (u : ThreadId) (l : LockId) → depth log u l ≤ length log
unfolding depth
depth_within log u l = let h = count_by-le-length (acquires u l) log in omega arith

-- the law: clocks that stand for a log have small numbers
pub few_in_log : FewInLog
few_in_log log s within st = record {
  po = λ t u. (let a = (st.po t u).within in let b = events_within log u in omega arith);
  hb = λ t u. (let a = (st.hb.thread t u).within in let b = events_within log u in omega arith);
  lock = λ l u. (let a = (st.hb.lock l u).within in let b = events_within log u in omega arith);
  depth = λ t l. (let a = st.depths t l in let b = depth_within log t l in omega arith);
}

-- no event stands in the empty log
nothing : (P : ℕ → Type 0) → Counted [] P no_clock
nothing P u = record {
  within = omega arith;
  first =
      λ i o. absurd (let h : i < 0 = slice_get_within [] i o.event o.at in omega arith);
}

-- the empty clocks stand for the empty log
pub empty_stands : StandsFor [] empty
unfolding events_of depth
empty_stands = record {
  po = λ t. nothing (Past [] (Po []) t);
  hb = record { thread = λ t. nothing (Past [] (Hb []) t); lock = λ l. nothing (LockPast [] (Hb []) l) };
  po_own = λ t. refl;
  hb_own = λ t. refl;
  depths = λ t l. refl;
}

-- what is below a thread is below its latest event
pub po_latest : (limits : Limits) (log : List Event) (t : ThreadId) (j : ℕ) (f : ℕ → ℕ)
    → WellFormed limits log → IsLatest log t j
    → Counted log (Past log (Po log) t) f → Counted log (λ i. Po log i j) f
po_latest limits log t j f w latest is u =
    past_latest log (Po log) t u j (f u.0) (orderly limits log w) (λ i g p q. chain_trans p q) latest.of
    latest.last (is u)

-- what happens before a thread's latest event is the thread's past
pub hb_latest : (limits : Limits) (log : List Event) (t : ThreadId) (j : ℕ) (f : ℕ → ℕ)
    → WellFormed limits log → IsLatest log t j
    → Counted log (Past log (Hb log) t) f → Counted log (λ i. Hb log i j) f
hb_latest limits log t j f w latest is u =
    past_latest log (Hb log) t u j (f u.0) (orderly limits log w) (λ i g p q. hb_trans p (hb_of_po q))
    latest.of latest.last (is u)

events_rise : (log : List Event) (u : ThreadId) (i j : ℕ) → i ≤ j
    → events_of (take i log) u ≤ events_of (take j log) u
unfolding events_of
events_rise log u i j le =
    let p : Event → Bool = λ (e : Event). nat_eq e.thread.0 u.0 in
    subst (λ xs. count_by p xs ≤ count_by p (take j log)) (take-take i j log le)
    (sum_by-take-le (λ e. cond (p e) 1 0) (take j log) i)

-- the latest event's position is the number of events
latest_position : (log : List Event) (t : ThreadId) (j : ℕ) → IsLatest log t j
    → events_of log t ≡ events_of (take j log) t + 1
latest_position log t j latest =
    let below : events_of (take j log) t < events_of log t = rank_below log t j latest.of in
    let whole : events_of (take (length log) log) t ≡ events_of log t =
    ap (λ xs. events_of xs t) (take-length log) in
    let last = at_rank log t (events_of log t - 1) (length log) (omega arith) (omega arith) in
    let rank : events_of (take last.0 log) t ≡ events_of log t - 1 = last.2 in
    let le : events_of (take last.0 log) t ≤ events_of (take j log) t =
    by last.0 last.1 (cases_lt j last.0) in
    omega arith
  where
    by : (i : ℕ) → Of log i t → (j < i) ⊎ (i ≤ j) → events_of (take i log) t ≤ events_of (take j log) t
    by i o (inl lt) = absurd (latest.last i lt o)
    by i o (inr le) = events_rise log t i j le

-- a mark with the number of a thread's events names its latest
pub names_latest : (log : List Event) (t : ThreadId) (j : ℕ) (m : MarkedEvent) (n : ℕ)
    → m ≡ record { thread = t.0; position = n } → n ≡ events_of log t
    → IsLatest log t j → Names log m t j
names_latest log t j m n is own latest = record {
  of = latest.of;
  thread = ap (λ (x : MarkedEvent). x.thread) is;
  position = ap (λ (x : MarkedEvent). x.position) is ∙ own ∙ latest_position log t j latest;
}

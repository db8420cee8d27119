-- What is kept of a variable after an access of it, or after another event, stands for the longer log.
use Rattle.std.proofs.Common.{◌≡◌, ℕ, ◌+◌, ◌<◌, ◌≤◌, List, [], ◌∷◌, ◌++◌, length, take, refl, sym, ap, subst}
use Rattle.std.proofs.Common.{◌∙◌, ◌⊎◌, arith}
use Rattle.std.proofs.lemmas.Option.{slice_get_within}
use Rattle.std.proofs.Math.Seq.{take-append_seam}
use mathlib.Core.Logic.{inl, inr}
use Rattle.event_core.specs.declared.ids.ThreadId.{ThreadId}
use Rattle.event_core.specs.declared.ids.VarId.{VarId}
use Rattle.event_core.specs.declared.events.Event.{Event}
use Rattle.event_core.specs.declared.events.AccessKind.{AccessKind}
use Rattle.event_core.specs.declared.events.AccessKind.TheVariants.{Read, Write}
use Rattle.event_core.specs.declared.replies.Verdict.TheVariants.{Clear}
use Rattle.event_core.specs.Log.{Does, Of}
use Rattle.event_core.specs.Count.{events_of}
use Rattle.event_core.specs.Effect.{access_of}
use Rattle.event_core.specs.Closed.{Has, first, later}
use Rattle.event_core.specs.Verdict.{IsVerdict}
use Rattle.event_core.specs.Wcp.{Below, rule_c_right}
use Rattle.event_core.specs.Order.{Po}
use Rattle.event_core.proofs.Accesses.{access_one}
use Rattle.event_core.proofs.OrderProperties.{chain_trans, hb_of_po, po_thread}
use Rattle.event_core.proofs.CountedProperties.{last_does, last_of, is_last, last_thread, last_op}
use Rattle.event_core.proofs.DepthProperties.{thread_cases}
use Rattle.event_core.proofs.LogProperties.{of_does}
use Rattle.event_core.proofs.HasProperties.{none_in}
use Rattle.event_core.proofs.RelationsStay.{longer, back, does, below_too}
use Rattle.event_core.proofs.EffectProperties.{front}
use Rattle.access_check.specs.declared.last_accesses.Access.{Access}
use Rattle.access_check.specs.declared.last_accesses.LastAccess.{LastAccess}
use Rattle.access_check.specs.declared.variable_accesses.VariableAccesses.{VariableAccesses}
use Rattle.access_check.specs.LastAccesses.{put}
use Rattle.access_check.specs.VariableAccesses.{kept}
use Rattle.access_check.specs.Tables.{last_of as its_last}
use Rattle.access_check.specs.Standing.{IsOfLog, HasLast, IsCovered, VariableStands}
use Rattle.access_check.proofs.LatestRacingProperties.{Clashes, read_write, write_write}
use Rattle.access_check.proofs.VerdictLaws.{clash_conflicts}
use Rattle.access_check.proofs.PutProperties.{has_put, put_has, put_new}

kind_cases : (k m : AccessKind) → (k ≡ m) ⊎ (k ≡ m → ⊥)
kind_cases Read Read = inl refl
kind_cases Write Write = inl refl
kind_cases Read Write = inr (λ q. cc)
kind_cases Write Read = inr (λ q. cc)

has_one : (p q : LastAccess) → Has p (q ∷ []) → p ≡ q
has_one p q (first _ _ same) = same
has_one p q (later _ _ h) = absurd (none_in h)

-- each access conflicts with a store
clashes_write : (k : AccessKind) → Clashes k Write
clashes_write Read = read_write
clashes_write Write = write_write

-- what is ordered before an event is ordered before what follows that in program order
below_po : {log : List Event} {i g j : ℕ} → Below log i g → Po log g j → Below log i j
below_po (inl s) p = inl (rule_c_right s (hb_of_po p))
below_po (inr q) p = inr (chain_trans q p)

module _ (log : List Event) (e : Event) where
  -- what stands for the log stands for it with the event
  access_kept : (x : VarId) (k : AccessKind) (p : LastAccess) → IsOfLog log x k p
      → IsOfLog (log ++ e ∷ []) x k p
  access_kept x k p a =
      let within : p.access.index < length log
      = slice_get_within log p.access.index a.does.event a.does.at in
      record {
        does = does (longer log (e ∷ [])) within a.does;
        position = a.position
            ∙ sym (ap (λ es. events_of es p.thread + 1) (front log e p.access.index (omega arith)));
      }

  covered_kept : (x : VarId) (stores : List LastAccess) (j : ℕ)
      → ((p : LastAccess) → Has p stores → IsOfLog log x Write p) → IsCovered log stores j
      → IsCovered (log ++ e ∷ []) stores j
  covered_kept x stores j sound h =
      let a : IsOfLog log x Write h.store = sound h.store h.member in
      let within : h.store.access.index < length log
      = slice_get_within log h.store.access.index a.does.event a.does.at in
      record {
        store = h.store;
        member = h.member;
        after = h.after;
        ordered = λ none. h.ordered (λ b. none (below_too (longer log (e ∷ [])) within b));
      }

  -- an event that does not access the variable
  pub untouched : (x : VarId) (old ts : VariableAccesses) → ((m : AccessKind) → kept m ts ≡ kept m old)
      → ((k : AccessKind) → e.op ≡ access_of x k → ⊥)
      → VariableStands log x old → VariableStands (log ++ e ∷ []) x ts
  untouched x old ts same other s = record {
    sound = λ k p h. access_kept x k p (s.sound k p (subst (Has p) (same k) h));
    complete = λ j u k d. go j u k d (is_last log e j u (of_does d));
  }
    where
      before : (j : ℕ) (u : ThreadId) (k : AccessKind)
          → HasLast (kept k old) u j ⊎ IsCovered log (kept Write old) j
          → HasLast (kept k ts) u j ⊎ IsCovered (log ++ e ∷ []) (kept Write ts) j
      before j u k (inl h) = inl (subst (λ ps. HasLast ps u j) (sym (same k)) h)
      before j u k (inr h) = inr (subst (λ ps. IsCovered (log ++ e ∷ []) ps j) (sym (same Write))
          (covered_kept x (kept Write old) j (s.sound Write) h))

      go : (j : ℕ) (u : ThreadId) (k : AccessKind) → Does (log ++ e ∷ []) j u (access_of x k)
          → (j < length log) ⊎ (j ≡ length log)
          → HasLast (kept k ts) u j ⊎ IsCovered (log ++ e ∷ []) (kept Write ts) j
      go j u k d (inl lt) = before j u k (s.complete j u k (does (back (longer log (e ∷ []))) lt d))
      go j u k d (inr is) = absurd (other k (last_op log e j u (access_of x k) is d))

  module _ (x : VarId) (k : AccessKind) (a : Access) (op : e.op ≡ access_of x k) (at : a.index ≡ length log)
      (position : a.position ≡ events_of log e.thread + 1) where
    abbrev pub new : LastAccess
    new = its_last e.thread a

    -- the event as an access of the log
    pub new_access : IsOfLog (log ++ e ∷ []) x k new
    new_access = record {
      does = subst (λ j. Does (log ++ e ∷ []) j e.thread (access_of x k)) (sym at)
          (subst (λ o. Does (log ++ e ∷ []) (length log) e.thread o) op (last_does log e));
      position = position ∙ sym (ap (λ n. events_of (take n (log ++ e ∷ [])) e.thread + 1) at
          ∙ ap (λ es. events_of es e.thread + 1) (take-append_seam log (e ∷ [])));
    }

    -- the last event is this access
    pub is_new : (j : ℕ) (u : ThreadId) (m : AccessKind) → Does (log ++ e ∷ []) j u (access_of x m)
        → j ≡ length log → (k ≡ m) × (e.thread ≡ u) × (j ≤ a.index)
    is_new j u m d is =
        let same : k ≡ m = (access_one x x k m (sym op ∙ last_op log e j u (access_of x m) is d)).1 in
        (same, last_thread log e j u is (of_does d), omega arith)

    -- what is covered by a store that is taken out is covered by the store that is put in
    covered_put : (stores : List LastAccess) (j : ℕ) → k ≡ Write
        → ((p : LastAccess) → Has p stores → IsOfLog log x Write p) → IsCovered log stores j
        → IsCovered (log ++ e ∷ []) (put new stores) j
    covered_put stores j is sound h = go (put_has h.store new stores h.member)
      where
        old : IsOfLog log x Write h.store
        old = sound h.store h.member

        within : h.store.access.index < length log
        within = slice_get_within log h.store.access.index old.does.event old.does.at

        go : Has h.store (put new stores) ⊎ (h.store.thread ≡ e.thread)
            → IsCovered (log ++ e ∷ []) (put new stores) j
        go (inl m) = record {
          store = h.store;
          member = m;
          after = h.after;
          ordered = λ none. h.ordered (λ b. none (below_too (longer log (e ∷ [])) within b));
        }
        go (inr same) =
            let lt : h.store.access.index < length log = within in
            let after : j < h.store.access.index = h.after in
            let index : a.index ≡ length log = at in
            let mine : Of (log ++ e ∷ []) h.store.access.index e.thread
            = subst (Of (log ++ e ∷ []) h.store.access.index) same
            (of_does (does (longer log (e ∷ [])) within old.does)) in
            let theirs : Of (log ++ e ∷ []) a.index e.thread
            = subst (λ n. Of (log ++ e ∷ []) n e.thread) (sym at) (last_of log e) in
            record {
              store = new;
              member = put_new new stores;
              after = omega arith;
              ordered = λ none. h.ordered (λ b. none (below_po
                  (below_too (longer log (e ∷ [])) within b)
                  (po_thread e.thread mine theirs (omega arith))));
            }

    module _ (old ts : VariableAccesses) (s : VariableStands log x old) where
      -- the access is put into the list of its kind
      module _ (is : kept k ts ≡ put new (kept k old))
          (others : (m : AccessKind) → (k ≡ m → ⊥) → kept m ts ≡ kept m old) where
        new_member : Has new (kept k ts)
        new_member = subst (Has new) (sym is) (put_new new (kept k old))

        put_sound : (p : LastAccess) → Has p (kept k ts) → IsOfLog (log ++ e ∷ []) x k p
        put_sound p h = go (has_put p new (kept k old) (subst (Has p) is h))
          where
            go : Has p (kept k old) ⊎ (p ≡ new) → IsOfLog (log ++ e ∷ []) x k p
            go (inl h) = access_kept x k p (s.sound k p h)
            go (inr same) = subst (IsOfLog (log ++ e ∷ []) x k) (sym same) new_access

        last_put : (u : ThreadId) (j : ℕ) → j < length log → HasLast (kept k old) u j
            → HasLast (kept k ts) u j
        last_put u j lt h = go (put_has h.last new (kept k old) h.member)
          where
            go : Has h.last (put new (kept k old)) ⊎ (h.last.thread ≡ e.thread) → HasLast (kept k ts) u j
            go (inl m) = record {
              last = h.last;
              member = subst (Has h.last) (sym is) m;
              thread = h.thread;
              from = h.from;
            }
            go (inr same) = record {
              last = new;
              member = new_member;
              thread = sym same ∙ h.thread;
              from = omega arith;
            }

        last_kept : (u : ThreadId) (j : ℕ) (m : AccessKind) → j < length log → (k ≡ m) ⊎ (k ≡ m → ⊥)
            → HasLast (kept m old) u j → HasLast (kept m ts) u j
        last_kept u j m lt (inl same) h =
            subst (λ n. HasLast (kept n old) u j → HasLast (kept n ts) u j) same (last_put u j lt) h
        last_kept u j m lt (inr ne) h = subst (λ ps. HasLast ps u j) (sym (others m ne)) h

        covered_still : (j : ℕ) → (k ≡ Write) ⊎ (k ≡ Write → ⊥) → IsCovered log (kept Write old) j
            → IsCovered (log ++ e ∷ []) (kept Write ts) j
        covered_still j (inl same) h =
            subst (λ ps. IsCovered (log ++ e ∷ []) ps j)
            (sym (subst (λ n. kept n ts ≡ put new (kept n old)) same is))
            (covered_put (kept Write old) j same (s.sound Write) h)
        covered_still j (inr ne) h =
            subst (λ ps. IsCovered (log ++ e ∷ []) ps j) (sym (others Write ne))
            (covered_kept x (kept Write old) j (s.sound Write) h)

        pub put_stands : VariableStands (log ++ e ∷ []) x ts
        put_stands = record {
          sound = λ m p h. sound m p (kind_cases k m) h;
          complete = λ j u m d. complete j u m d (is_last log e j u (of_does d));
        }
          where
            sound : (m : AccessKind) (p : LastAccess) → (k ≡ m) ⊎ (k ≡ m → ⊥) → Has p (kept m ts)
                → IsOfLog (log ++ e ∷ []) x m p
            sound m p (inl same) h =
                subst (λ n. Has p (kept n ts) → IsOfLog (log ++ e ∷ []) x n p) same (put_sound p) h
            sound m p (inr ne) h = access_kept x m p (s.sound m p (subst (Has p) (others m ne) h))

            earlier : (j : ℕ) (u : ThreadId) (m : AccessKind) → j < length log
                → HasLast (kept m old) u j ⊎ IsCovered log (kept Write old) j
                → HasLast (kept m ts) u j ⊎ IsCovered (log ++ e ∷ []) (kept Write ts) j
            earlier j u m lt (inl h) = inl (last_kept u j m lt (kind_cases k m) h)
            earlier j u m lt (inr h) = inr (covered_still j (kind_cases k Write) h)

            complete : (j : ℕ) (u : ThreadId) (m : AccessKind) → Does (log ++ e ∷ []) j u (access_of x m)
                → (j < length log) ⊎ (j ≡ length log)
                → HasLast (kept m ts) u j ⊎ IsCovered (log ++ e ∷ []) (kept Write ts) j
            complete j u m d (inl lt) =
                earlier j u m lt (s.complete j u m (does (back (longer log (e ∷ []))) lt d))
            complete j u m d (inr last) =
                let r = is_new j u m d last in
                inl (subst (λ n. HasLast (kept n ts) u j) r.0
                (record { last = new; member = new_member; thread = r.1; from = r.2 }))

      -- a store that does not race is kept alone: it covers all earlier accesses
      module _ (is : k ≡ Write) (loads : kept Read ts ≡ []) (stores : kept Write ts ≡ new ∷ [])
          (clear : IsVerdict (log ++ e ∷ []) (length log) Clear) where
        alone_member : Has new (kept Write ts)
        alone_member = subst (Has new) (sym stores) (first new [] refl)

        covers : (j : ℕ) (u : ThreadId) (m : AccessKind) → j < length log
            → Does (log ++ e ∷ []) j u (access_of x m) → IsCovered (log ++ e ∷ []) (kept Write ts) j
        covers j u m lt d = record {
          store = new;
          member = alone_member;
          after = omega arith;
          ordered = λ none. ordered none (thread_cases u e.thread);
        }
          where
            ordered : (Below (log ++ e ∷ []) j a.index → ⊥) → (u ≡ e.thread) ⊎ (u ≡ e.thread → ⊥) → ⊥
            ordered none (inl same) =
                none (inr (po_thread e.thread (subst (Of (log ++ e ∷ []) j) same (of_does d))
                (subst (λ n. Of (log ++ e ∷ []) n e.thread) (sym at) (last_of log e)) (omega arith)))
            ordered none (inr other) = clear j (record {
              before = lt;
              conflict = record {
                first = access_of x m;
                second = access_of x Write;
                by = u;
                other = e.thread;
                does_first = d;
                does_second = subst (λ o. Does (log ++ e ∷ []) (length log) e.thread o)
                    (op ∙ ap (access_of x) is) (last_does log e);
                ops = clash_conflicts x m Write (clashes_write m);
                threads = other;
              };
              unordered = λ b. none (subst (Below (log ++ e ∷ []) j) (sym at) b);
            })

        pub alone_stands : VariableStands (log ++ e ∷ []) x ts
        alone_stands = record {
          sound = sound;
          complete = λ j u m d. complete j u m d (is_last log e j u (of_does d));
        }
          where
            sound : (m : AccessKind) (p : LastAccess) → Has p (kept m ts) → IsOfLog (log ++ e ∷ []) x m p
            sound Read p h = absurd (none_in (subst (Has p) loads h))
            sound Write p h =
                subst (λ q. IsOfLog (log ++ e ∷ []) x Write q) (sym (has_one p new (subst (Has p) stores h)))
                (subst (λ n. IsOfLog (log ++ e ∷ []) x n new) is new_access)

            complete : (j : ℕ) (u : ThreadId) (m : AccessKind) → Does (log ++ e ∷ []) j u (access_of x m)
                → (j < length log) ⊎ (j ≡ length log)
                → HasLast (kept m ts) u j ⊎ IsCovered (log ++ e ∷ []) (kept Write ts) j
            complete j u m d (inl lt) = inr (covers j u m lt d)
            complete j u m d (inr last) =
                let r = is_new j u m d last in
                inl (subst (λ n. HasLast (kept n ts) u j) (sym is ∙ r.0)
                (record { last = new; member = alone_member; thread = r.1; from = r.2 }))

-- Lines that were judged keep the rules of forks and joins, and their numbers have names.
use Rattle.std.proofs.Common.{◌≡◌, ℕ, ◌+◌, ◌==◌, ◌||◌, ◌++◌, List, [], ◌∷◌, length, Option, Some, None, Ok}
use Rattle.std.proofs.Common.{Err, refl, ap, ◌∙◌, sym, subst, inl, inr, ◌⊎◌, true, false, Bool}
use Rattle.std.specs.Prelude.{slice_get, unwrap_or, Result, decimal, IfSome}
use Rattle.std.specs.List.{list_any}
use Rattle.std.proofs.lemmas.Bool.{eqb-true, cases_Bool, or_parts, false_from_ne_true, both_ways}
use Rattle.std.proofs.lemmas.Map.Keys.{any_passes_from_place}
use Rattle.std.proofs.lemmas.Option.{IfSome_then}
use Rattle.event_core.specs.declared.ids.ThreadId.{ThreadId}
use Rattle.event_core.specs.Bounds.{Bounds}
use Rattle.event_core.proofs.Places.{front_or_last, each_push}
use Rattle.rapid_text.specs.declared.causes.Kind.{Kind}
use Rattle.rapid_text.specs.declared.causes.Kind.TheVariants as kinds
use Rattle.rapid_text.specs.Tables.{Tables, TablesGrow, number_in}
use Rattle.rapid_line.specs.Cut.{content}
use Rattle.rapid_line.specs.Reading.{and_then}
use Rattle.rapid_line.proofs.ReadingProperties.{and_then_ok, unless_ok, ok_inj}
use Rattle.rapid_text.specs.Events.{HasNames}
use Rattle.rapid_text.proofs.NameGrowth.{NumberedInOrder, in_order, within, HasNames-kept}
use Rattle.script_text.specs.declared.causes.ScriptCause.{ScriptCause}
use Rattle.script_text.specs.declared.causes.ScriptCause.TheVariants.{BadFork, BadJoin}
use Rattle.script_text.specs.declared.causes.ScriptFault.{ScriptFault}
use Rattle.script_text.specs.declared.lines.ScriptLine.{ScriptLine}
use Rattle.script_text.specs.declared.forms.Word.{Word}
use Rattle.script_text.specs.declared.forms.Word.TheVariants.{One, Swap}
use Rattle.rapid_line.specs.declared.words.Word.TheVariants as words
use Rattle.script_text.specs.Forms.{SpelledAct, line_of}
use Rattle.script_text.specs.Lines.{thread_of, fork_of, join_of, forks, joins, is_thread}
use Rattle.script_text.specs.Scripts.{Parsed, Once, AreLegal, IsDraft, judge, next_line, after_content}
use Rattle.script_text.specs.Scripts.{with_line, number_or_cause, numbered_line, is_bad_fork, is_bad_join}
use Rattle.script_text.specs.Scripts.{act_event, act_of, kind_of, begun}

-- ---- what an Ok says

number_ok : (k : Kind) (o : Option (ℕ × Tables)) (p : ℕ × Tables) → number_or_cause k o ≡ Ok p → o ≡ Some p
number_ok k None p e = absurd cc
number_ok k (Some q) p e = ap Some (ok_inj q p e)

-- ---- one line more

-- none of the list passes a test that no element passes
none_passes : (p : ScriptLine → Bool) (xs : List ScriptLine) (k : ℕ) (x : ScriptLine) → list_any p xs ≡ false
    → slice_get xs k ≡ Some x → p x ≡ false
none_passes p xs k x none at =
    false_from_ne_true (p x) (λ met. both_ways (list_any p xs) none (any_passes_from_place p xs k x at met))

-- no line before names the thread that the line names
abbrev IsNew : (ScriptLine → Option ThreadId) → List ScriptLine → ScriptLine → Type 0
IsNew of lines l = (u k : ℕ) (m : ScriptLine) → is_thread u (of l) ≡ true → slice_get lines k ≡ Some m
    → is_thread u (of m) ≡ false

once_more : (of : ScriptLine → Option ThreadId) (lines : List ScriptLine) (new : ScriptLine) → Once of lines
    → IsNew of lines new → Once of (lines ++ new ∷ [])
once_more of lines new h fresh j k u l m atj atk namesl namesm =
    both (front_or_last lines new j l atj) (front_or_last lines new k m atk)
  where
    both : (slice_get lines j ≡ Some l) ⊎ ((j ≡ length lines) × (l ≡ new))
        → (slice_get lines k ≡ Some m) ⊎ ((k ≡ length lines) × (m ≡ new)) → j ≡ k
    both (inl a) (inl b) = h j k u l m a b namesl namesm
    both (inl a) (inr b) = absurd (both_ways (is_thread u (of l))
        (fresh u j l (ap (λ (x : ScriptLine). is_thread u (of x)) (sym b.1) ∙ namesm) a) namesl)
    both (inr a) (inl b) = absurd (both_ways (is_thread u (of m))
        (fresh u k m (ap (λ (x : ScriptLine). is_thread u (of x)) (sym a.1) ∙ namesl) b) namesm)
    both (inr a) (inr b) = a.0 ∙ sym b.0

new_by : (of : ScriptLine → Option ThreadId) (lines : List ScriptLine) (l : ScriptLine) (o : Option ThreadId)
    → of l ≡ o → IfSome o (λ v. list_any (λ x. is_thread v.0 (of x)) lines ≡ false) → IsNew of lines l
new_by of lines l None is h = λ u k m names at.
    let clash : false ≡ true = subst (λ (p : Option ThreadId). is_thread u p ≡ true) is names in absurd cc
new_by of lines l (Some v) is h = λ u k m names at.
    let same : v.0 ≡ u = eqb-true v.0 u (subst (λ (p : Option ThreadId). is_thread u p ≡ true) is names) in
    ap (λ (n : ℕ). is_thread n (of m)) (sym same) ∙ none_passes (λ x. is_thread v.0 (of x)) lines k m h at

not_named : (n : ℕ) (o : Option ThreadId) → IfSome o (λ v. (v.0 == n) ≡ false) → is_thread n o ≡ false
not_named n None h = refl
not_named n (Some v) h = h

fork_says : (lines : List ScriptLine) (o : Option ThreadId) → is_bad_fork lines o ≡ false
    → IfSome o (λ v. ((v.0 == 0) ≡ false) × (list_any (forks v.0) lines ≡ false))
fork_says lines None h = tt
fork_says lines (Some v) h = or_parts (v.0 == 0) (list_any (forks v.0) lines) h

join_says : (lines : List ScriptLine) (own : ThreadId) (o : Option ThreadId) → is_bad_join lines own o ≡ false
    → IfSome o (λ v. ((v.0 == 0) ≡ false) × ((v.0 == own.0) ≡ false) × (list_any (joins v.0) lines ≡ false))
join_says lines own None h = tt
join_says lines own (Some v) h =
    let main = or_parts (v.0 == 0) ((v.0 == own.0) || list_any (joins v.0) lines) h in
    let self = or_parts (v.0 == own.0) (list_any (joins v.0) lines) main.1 in
    (main.0, self.0, self.1)

first_more : (lines : List ScriptLine) (new : ScriptLine)
    → ((l : ScriptLine) → slice_get lines 0 ≡ Some l → (thread_of l).0 ≡ 0)
    → (lines ≡ [] → (thread_of new).0 ≡ 0)
    → (l : ScriptLine) → slice_get (lines ++ new ∷ []) 0 ≡ Some l → (thread_of l).0 ≡ 0
first_more [] new h first l at =
    let same : new ≡ l = ap (λ (o : Option ScriptLine). unwrap_or o new) at in
    ap (λ (x : ScriptLine). (thread_of x).0) (sym same) ∙ first refl
first_more (x ∷ lines) new h first l at = h l at

legal_more : (lines : List ScriptLine) (new : ScriptLine) → AreLegal lines
    → is_bad_fork lines (fork_of new) ≡ false → is_bad_join lines (thread_of new) (join_of new) ≡ false
    → (lines ≡ [] → (thread_of new).0 ≡ 0) → AreLegal (lines ++ new ∷ [])
legal_more lines new h fork join first =
    let f = fork_of new in
    let j = join_of new in
    let forks_says = fork_says lines f fork in
    let joins_says = join_says lines (thread_of new) j join in
    record {
      main = first_more lines new h.main first;
      fork_main = each_push (λ l. forks 0 l ≡ false) lines new h.fork_main
          (not_named 0 f (IfSome_then f forks_says (λ v says. says.0)));
      fork_once = once_more fork_of lines new h.fork_once
          (new_by fork_of lines new f refl (IfSome_then f forks_says (λ v says. says.1)));
      join_main = each_push (λ l. joins 0 l ≡ false) lines new h.join_main
          (not_named 0 j (IfSome_then j joins_says (λ v says. says.0)));
      join_self = each_push (λ l. joins (thread_of l).0 l ≡ false) lines new h.join_self
          (not_named (thread_of new).0 j (IfSome_then j joins_says (λ v says. says.1)));
      join_once = once_more join_of lines new h.join_once
          (new_by join_of lines new j refl (IfSome_then j joins_says (λ v says. says.2)));
    }

-- ---- names

has_names : (w : Word) (number : ℕ) {t u : Tables} {thread name location : List ℕ} {a b c : ℕ}
    → NumberedInOrder t (kind_of w) thread name location a b c u
    → HasNames u (act_event (act_of w a b c number))
has_names (One words.Load) number n = let w = within n in record { thread = w.0; target = w.1; site = w.2 }
has_names (One _) number n = let w = within n in record { thread = w.0; target = w.1; site = w.2 }
has_names Swap number n = let w = within n in record { thread = w.0; target = w.1; site = w.2 }

thread_of_act : (w : Word) (a b c number n : ℕ)
    → (thread_of (record { act = act_of w a b c number; line = n })).0 ≡ a
thread_of_act (One w) a b c number n = refl
thread_of_act Swap a b c number n = refl

some_line : (lines : List ScriptLine) (l : ScriptLine) → lines ++ l ∷ [] ≡ [] → ⊥
some_line [] l e = cc
some_line (x ∷ lines) l e = cc

-- what a line's numbers say
record IsNumbered (t : Tables) (l : ScriptLine) (u : Tables) : Type 0 where
  names : HasNames u (act_event l.act)
  grows : TablesGrow t u
  first : t.threads.names ≡ [] → (thread_of l).0 ≡ 0

numbered_is : (t : Tables) (n : ℕ) (said : SpelledAct) (l : ScriptLine) (u : Tables)
    → numbered_line t n said ≡ Ok (l, u)
    → IsNumbered t l u
unfolding numbered_line
numbered_is t n said l u e =
    let a = number_in t kinds.Thread said.thread in
    let p = and_then_ok (number_or_cause kinds.Thread a) _ (l, u) e in
    let kind = kind_of said.word in
    let b = number_in p.0.1 kind said.argument in
    let q = and_then_ok (number_or_cause kind b) _ (l, u) p.2 in
    let c = number_in q.0.1 kinds.Site (decimal n) in
    let r = and_then_ok (number_or_cause kinds.Site c) _ (l, u) q.2 in
    let order = in_order p.0 q.0 r.0 (number_ok kinds.Thread a p.0 p.1) (number_ok kind b q.0 q.1)
    (number_ok kinds.Site c r.0 r.1) in
    let last : ScriptLine × Tables =
    (record { act = act_of said.word p.0.0 q.0.0 r.0.0 said.number; line = n }, r.0.1) in
    let here : IsNumbered t last.0 last.1 = record {
      names = has_names said.word said.number order;
      grows = order.grows;
      first = λ none. thread_of_act said.word p.0.0 q.0.0 r.0.0 said.number n ∙ order.first none;
    } in
    subst (λ (x : ScriptLine × Tables). IsNumbered t x.0 x.1) (ok_inj last (l, u) r.2) here

-- ---- all lines

draft_line : (s : Parsed) (l : ScriptLine) (u : Tables) (t : Parsed) → IsDraft s → IsNumbered s.names l u
    → with_line s l u ≡ Ok t → IsDraft t
draft_line s l u t h numbered e =
    let fork = unless_ok BadFork (is_bad_fork s.lines (fork_of l)) _ t e in
    let join = unless_ok BadJoin (is_bad_join s.lines (thread_of l) (join_of l)) _ t fork.1 in
    let last : Parsed = record { names = u; lines = s.lines ++ l ∷ [] } in
    let here : IsDraft last = record {
      legal = legal_more s.lines l h.legal fork.0 join.0 (λ none. numbered.first (h.fresh none));
      named = each_push (λ x. HasNames u (act_event x.act)) s.lines l
          (λ k x at. HasNames-kept s.names u (act_event x.act) numbered.grows
          (h.named k x at)) numbered.names;
      fresh = λ none. absurd (some_line s.lines l none);
    } in
    subst IsDraft (ok_inj last t join.1) here

draft_content : (s : Parsed) (n : ℕ) (bytes : List ℕ) (t : Parsed) → IsDraft s
    → after_content s n bytes ≡ Ok t
    → IsDraft t
unfolding after_content
draft_content s n bytes t h e =
    elim (cases_Bool (length bytes == 0)) [
      | inl empty ↦ subst IsDraft (ok_inj s t (rw empty at e)) h
      | inr some ↦
          let read = and_then_ok (line_of bytes) (λ said.
          and_then (numbered_line s.names n said) (λ p. with_line s p.0 p.1)) t (rw some at e) in
          let number = and_then_ok (numbered_line s.names n read.0) _ t read.2 in
          draft_line s number.0.0 number.0.1 t h
          (numbered_is s.names n read.0 number.0.0 number.0.1 number.1) number.2
    ]

draft_next : (n : ℕ) (r : Result Parsed ScriptCause) (go : Parsed → Result Parsed ScriptFault) (t : Parsed)
    → next_line n r go ≡ Ok t → (s : Parsed) × (r ≡ Ok s) × (go s ≡ Ok t)
draft_next n (Err cause) go t e = absurd cc
draft_next n (Ok s) go t e = (s, refl, e)

-- what was judged keeps the rules
pub draft_judged : (s : Parsed) (n : ℕ) (ls : List (List ℕ)) (t : Parsed) → IsDraft s → judge s n ls ≡ Ok t
    → IsDraft t
draft_judged s n [] t h e = subst IsDraft (ok_inj s t e) h
draft_judged s n (l ∷ ls) t h e =
    let first = draft_next n (after_content s n (content l)) (λ x. judge x (n + 1) ls) t e in
    draft_judged first.0 (n + 1) ls t (draft_content s n (content l) first.0 h first.1) first.2

pub draft_begun : (limits : Bounds) → IsDraft (begun limits)
draft_begun limits = record {
  legal = record {
    main = λ l at. absurd cc;
    fork_main = λ k l at. absurd cc;
    fork_once = λ j k u l m at. absurd cc;
    join_main = λ k l at. absurd cc;
    join_self = λ k l at. absurd cc;
    join_once = λ j k u l m at. absurd cc;
  };
  named = λ k l at. absurd cc;
  fresh = λ none. refl;
}

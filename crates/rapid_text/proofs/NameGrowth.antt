-- Names are only added, and the numbers of an event have the names that its line gave.
use Rattle.std.proofs.Common.{◌≡◌, ℕ, ◌<◌, List, [], ◌++◌, length, Option, Some, None, Result, Ok, Err, refl}
use Rattle.std.proofs.Common.{sym, ap, subst, ◌∙◌, append-nil, append_assoc, arith}
use Rattle.std.specs.Prelude.{IfOk, OnErr, unwrap_or, slice_get}
use Rattle.std.proofs.lemmas.List.{length-append}
use Rattle.std.proofs.lemmas.Option.{slice_get_within}
use Rattle.event_core.specs.declared.events.Event.{Event}
use Rattle.rapid_line.specs.declared.words.Word.{Word}
use Rattle.rapid_line.specs.declared.words.Word.TheVariants as words
use Rattle.rapid_line.specs.Grammar.{NamedEvent}
use Rattle.rapid_line.proofs.ReadingProperties.{and_then_ok, ok_inj}
use Rattle.rapid_text.specs.declared.causes.Kind.{Kind}
use Rattle.rapid_text.specs.declared.causes.Kind.TheVariants as kinds
use Rattle.rapid_text.specs.declared.causes.NameFault.{NameFault}
use Rattle.rapid_text.specs.Numbers.{Numbered, number_of, Grows}
use Rattle.rapid_text.specs.Tables.{Tables, space, with_space, number_in, name_at, TablesGrow}
use Rattle.rapid_text.specs.Events.{kind_of, op_of, event_of, number_or_fault, named_event, word_of_op}
use Rattle.rapid_text.specs.Events.{target_of, named_by, HasNames}
use Rattle.rapid_text.proofs.NumberedProperties.{numbers, grows, first_number, with_each, with_space_of}
use Rattle.rapid_text.proofs.NumberedProperties.{put_some}
use Rattle.event_core.proofs.Places.{get_before}

-- ---- names are only added

pub Grows-refl : (s : Numbered) → Grows s s
Grows-refl s = record { more = []; names = sym (append-nil s.names); limit = refl }

pub Grows-trans : (s t u : Numbered) → Grows s t → Grows t u → Grows s u
Grows-trans s t u p q = record {
  more = p.more ++ q.more;
  names = q.names ∙ ap (λ (xs : List (List ℕ)). xs ++ q.more) p.names ∙ append_assoc s.names p.more q.more;
  limit = q.limit ∙ p.limit;
}

pub TablesGrow-refl : (t : Tables) → TablesGrow t t
TablesGrow-refl t = λ k. Grows-refl (space t k)

pub TablesGrow-trans : (t u v : Tables) → TablesGrow t u → TablesGrow u v → TablesGrow t v
TablesGrow-trans t u v p q = λ k. Grows-trans (space t k) (space u k) (space v k) (p k) (q k)

pub TablesGrow-same : (t u : Tables) → u ≡ t → TablesGrow t u
TablesGrow-same t u e = subst (λ (v : Tables). TablesGrow t v) (sym e) (TablesGrow-refl t)

space_grows : (t : Tables) (kind : Kind) (s : Numbered) → Grows (space t kind) s
    → TablesGrow t (with_space t kind s)
space_grows t kind s = with_each (λ k u. Grows (space t k) u) t kind s (λ k. Grows-refl (space t k))

-- ---- in the four spaces

-- the number has the name, and names were only added; the first of its kind has the number 0
pub record Gives (t : Tables) (kind : Kind) (name : List ℕ) (n : ℕ) (u : Tables) : Type 0 where
  pub placed : slice_get (space u kind).names n ≡ Some name
  pub grows : TablesGrow t u
  pub first : (space t kind).names ≡ [] → n ≡ 0

pub gives : (t : Tables) (kind : Kind) (name : List ℕ) (p : ℕ × Tables) → number_in t kind name ≡ Some p
    → Gives t kind name p.0 p.1
unfolding number_in
gives t kind name p e =
    let q = put_some t kind (number_of (space t kind) name) p e in
    let done = numbers (space t kind) name p.0 q.0 q.1 in
    subst (λ (u : Tables). Gives t kind name p.0 u) (sym q.2) (record {
      placed = ap (λ (s : Numbered). slice_get s.names p.0) (with_space_of t kind q.0) ∙ done.placed;
      grows = space_grows t kind q.0 (grows done);
      first = first_number done;
    })

-- ---- an event's names

-- a name keeps its number
pub kept_name : (t u : Tables) (kind : Kind) (n : ℕ) (name : List ℕ) → TablesGrow t u
    → slice_get (space t kind).names n ≡ Some name
    → slice_get (space u kind).names n ≡ Some name
kept_name t u kind n name g e =
    let h = g kind in
    ap (λ (xs : List (List ℕ)). slice_get xs n) h.names ∙ get_before
    (space t kind).names h.more n name e

longer : (t u : Tables) → TablesGrow t u → (kind : Kind) (n : ℕ) → n < length (space t kind).names
    → n < length (space u kind).names
longer t u g kind n lt =
    let len = length-append (space t kind).names (g kind).more in
    let same = ap (λ (xs : List (List ℕ)). length xs) (g kind).names in
    omega (arith, lt, len, same)

-- an event keeps its names
pub HasNames-kept : (t u : Tables) (e : Event) → TablesGrow t u → HasNames t e → HasNames u e
HasNames-kept t u e g h = record {
  thread = longer t u g kinds.Thread e.thread.0 h.thread;
  target = longer t u g (kind_of (word_of_op e.op)) (target_of e.op) h.target;
  site = longer t u g kinds.Site e.site.0 h.site;
}

-- three names that were numbered one after another, of a thread, of a kind and of a location
pub record NumberedInOrder (t : Tables) (kind : Kind) (thread name location : List ℕ) (i j k : ℕ) (u : Tables)
    : Type 0 where
  pub thread_placed : slice_get (space u kinds.Thread).names i ≡ Some thread
  pub name_placed : slice_get (space u kind).names j ≡ Some name
  pub location_placed : slice_get (space u kinds.Site).names k ≡ Some location
  pub grows : TablesGrow t u
  pub first : t.threads.names ≡ [] → i ≡ 0

pub in_order : {t : Tables} {kind : Kind} {thread name location : List ℕ} (p q r : ℕ × Tables)
    → number_in t kinds.Thread thread ≡ Some p → number_in p.1 kind name ≡ Some q
    → number_in q.1 kinds.Site location ≡ Some r → NumberedInOrder t kind thread name location p.0 q.0 r.0 r.1
in_order {t} {kind} {thread} {name} {location} p q r one two three =
    let a = gives t kinds.Thread thread p one in
    let b = gives p.1 kind name q two in
    let c = gives q.1 kinds.Site location r three in
    let bc = TablesGrow-trans p.1 q.1 r.1 b.grows c.grows in
    record {
      thread_placed = kept_name p.1 r.1 kinds.Thread p.0 thread bc a.placed;
      name_placed = kept_name q.1 r.1 kind q.0 name c.grows b.placed;
      location_placed = c.placed;
      grows = TablesGrow-trans t p.1 r.1 a.grows bc;
      first = a.first;
    }

-- so each number has a name
pub within : {t : Tables} {kind : Kind} {thread name location : List ℕ} {i j k : ℕ} {u : Tables}
    → NumberedInOrder t kind thread name location i j k u → (i < length (space u kinds.Thread).names)
    × (j < length (space u kind).names) × (k < length (space u kinds.Site).names)
within {kind = kind} {u = u} n = (
  slice_get_within (space u kinds.Thread).names _ _ n.thread_placed,
  slice_get_within (space u kind).names _ _ n.name_placed,
  slice_get_within (space u kinds.Site).names _ _ n.location_placed,
)

op_parts : (w : Word) (n : ℕ)
    → ◌≡◌ {A = Word × ℕ} (word_of_op (op_of w n), target_of (op_of w n)) (w, n)
op_parts words.Load n = refl
op_parts _ n = refl

name_of : (u : Tables) (kind : Kind) (n : ℕ) (name : List ℕ) → slice_get (space u kind).names n ≡ Some name
    → name_at u kind n ≡ name
name_of u kind n name e = ap (λ (o : Option (List ℕ)). unwrap_or o []) e

-- the event's numbers have the names of the named event, and names were only added
pub record Named_event (t : Tables) (d : NamedEvent) (e : Event) (u : Tables) : Type 0 where
  pub named : named_by u e ≡ d
  pub has : HasNames u e
  pub value : e.value ≡ 0
  pub grows : TablesGrow t u

made : (t u : Tables) (d : NamedEvent) (i j k : ℕ)
    → NumberedInOrder t (kind_of d.word) d.thread d.argument d.location i j k u
    → Named_event t d (event_of d.word i j k) u
made t u d i j k n =
    let op = op_parts d.word j in
    let thread = name_of u kinds.Thread i d.thread n.thread_placed in
    let argument = ap (λ (x : Word × ℕ). name_at u (kind_of x.0) x.1) op
    ∙ name_of u (kind_of d.word) j d.argument n.name_placed in
    let location = name_of u kinds.Site k d.location n.location_placed in
    let long = within n in
    record {
      named = λ x. record {
        thread = thread x;
        word = (op x).0;
        argument = argument x;
        location = location x;
      };
      has = record {
        thread = long.0;
        target = subst (λ (x : Word × ℕ). x.1 < length (space u (kind_of x.0)).names) (sym op) long.1;
        site = long.2;
      };
      value = refl;
      grows = n.grows;
    }

pub numbered_ok : (kind : Kind) (o : Option (ℕ × Tables)) (p : ℕ × Tables) → number_or_fault kind o ≡ Ok p
    → o ≡ Some p
numbered_ok kind None p e = absurd cc
numbered_ok kind (Some q) p e = ap Some (ok_inj q p e)

event_is : (t : Tables) (d : NamedEvent) (p q r : ℕ × Tables) (x : Event × Tables)
    → number_in t kinds.Thread d.thread ≡ Some p → number_in p.1 (kind_of d.word) d.argument ≡ Some q
    → number_in q.1 kinds.Site d.location ≡ Some r → (event_of d.word p.0 q.0 r.0 ≡ x.0) × (r.1 ≡ x.1)
    → Named_event t d x.0 x.1
event_is t d p q r x one two three is =
    subst (λ (e : Event). Named_event t d e x.1) is.0 (subst (λ (u : Tables).
    Named_event t d (event_of d.word p.0 q.0 r.0) u) is.1
    (made t r.1 d p.0 q.0 r.0 (in_order p q r one two three)))

pub named_event_is : (t : Tables) (d : NamedEvent) (e : Event) (u : Tables) → named_event t d ≡ Ok (e, u)
    → Named_event t d e u
unfolding named_event
named_event_is t d e u eq =
    let a = number_in t kinds.Thread d.thread in
    let p = and_then_ok (number_or_fault kinds.Thread a) _ (e, u) eq in
    let b = number_in p.0.1 (kind_of d.word) d.argument in
    let q = and_then_ok (number_or_fault (kind_of d.word) b) _ (e, u) p.2 in
    let c = number_in q.0.1 kinds.Site d.location in
    let r = and_then_ok (number_or_fault kinds.Site c) _ (e, u) q.2 in
    let same = ok_inj _ _ r.2 in
    event_is t d p.0 q.0 r.0 (e, u) (numbered_ok kinds.Thread a p.0 p.1)
    (numbered_ok (kind_of d.word) b q.0 q.1) (numbered_ok kinds.Site c r.0 r.1)
    (ap (λ (x : Event × Tables). x.0) same, ap (λ (x : Event × Tables). x.1) same)

-- ---- what the code answers

pub number_grows : (t u : Tables) (kind : Kind) (name : List ℕ) (r : Result ℕ NameFault)
    → IfOk r (λ n. number_in t kind name ≡ Some (n, u))
    → OnErr r (u ≡ t) → TablesGrow t u
number_grows t u kind name (Ok n) ok err = (gives t kind name (n, u) ok).grows
number_grows t u kind name (Err f) ok err = TablesGrow-same t u err

pub number_named : (t u : Tables) (kind : Kind) (name : List ℕ) (r : Result ℕ NameFault)
    → IfOk r (λ n. number_in t kind name ≡ Some (n, u))
    → IfOk r (λ n. slice_get (space u kind).names n ≡ Some name)
number_named t u kind name (Ok n) ok = (gives t kind name (n, u) ok).placed
number_named t u kind name (Err f) ok = tt

-- The lines of a script that fork or join: a thread's ends are those of its lines among these.
use Rattle.std.proofs.Common.{◌≡◌, List, [], ◌∷◌, Bool, true, false, Option, None, refl, sym, ap, ◌∙◌}
use Rattle.std.proofs.Common.{ℕ, ◌+◌, ◌++◌, ◌<◌, length, get_or, cond, subst, arith, take}
use Rattle.std.specs.Prelude.{filter}
use Rattle.std.specs.List.{filter_map, cons_option, All, Contains}
use Rattle.std.proofs.lemmas.List.{take_more}
use Rattle.std.proofs.lemmas.List.Elements.{All-contains_itself, All-filter, All-get_or, filter_map-append}
use Rattle.event_core.specs.declared.ids.ThreadId.{ThreadId}
use Rattle.script_text.specs.declared.lines.ScriptLine.{ScriptLine}
use Rattle.script_text.specs.Lines.{fork_of, is_of, join_of}
use Rattle.script_drive.specs.Lines.{lines_by}
use Rattle.script_drive.specs.Workers.{Reach, Serves, forked, is_link}

-- what is found of a thread's lines, where nothing is found of a line that neither forks nor joins
module _ (found : ScriptLine → Option ThreadId)
    (none : (l : ScriptLine) → is_link l ≡ false → found l ≡ None) (t : ThreadId) where
  -- one line more, by whether it is the thread's, and whether it forks or joins
  one_line : (l : ScriptLine) (ls links : List ScriptLine) (own link : Bool) → is_of t.0 l ≡ own
      → is_link l ≡ link → filter_map found (lines_by t links) ≡ filter_map found (lines_by t ls)
      → filter_map found (lines_by t (cond link (l ∷ links) links)) ≡ filter_map found (lines_by t (l ∷ ls))
  one_line l ls links true true own link h = rw own (ap (cons_option (found l)) h)
  one_line l ls links false true own link h = rw own h
  one_line l ls links true false own link h = rw own (rw (none l link) h)
  one_line l ls links false false own link h = rw own h

  among_links : (lines : List ScriptLine)
      → filter_map found (lines_by t (filter is_link lines)) ≡ filter_map found (lines_by t lines)
  among_links [] = refl
  among_links (l ∷ ls) =
      one_line l ls (filter is_link ls) (is_of t.0 l) (is_link l) refl refl (among_links ls)

no_fork : (l : ScriptLine) → is_link l ≡ false → fork_of l ≡ None
no_fork l e = grind (arith, e)

no_join : (l : ScriptLine) → is_link l ≡ false → join_of l ≡ None
no_join l e = grind (arith, e)

-- all threads that lines fork are forked by lines among them
pub forked_links : (lines : List ScriptLine) → forked (filter is_link lines) ≡ forked lines
forked_links [] = refl
forked_links (l ∷ ls) = go (is_link l) refl (forked_links ls)
  where
    go : (link : Bool) → is_link l ≡ link → forked (filter is_link ls) ≡ forked ls
        → forked (cond link (l ∷ filter is_link ls) (filter is_link ls)) ≡ forked (l ∷ ls)
    go true is h = ap (cons_option (fork_of l)) h
    go false is h = rw (no_fork l is) h

-- what is found of one element more
pub found_more : {X Y : Type 0} (found : X → Option Y) (xs : List X) (i : ℕ) (x : X) → x ≡ get_or xs i x
    → i < length xs → filter_map found (take i xs) ++ filter_map found (x ∷ [])
    ≡ filter_map found (take (i + 1) xs)
found_more {X = X} found xs i x is lt = sym (filter_map-append found (take i xs) (x ∷ []))
    ∙ ap (filter_map found) (ap (λ (y : X). take i xs ++ y ∷ []) is ∙ sym (take_more xs i x lt))

-- the threads that the first lines fork, with that of one line more
pub forked_pushed : (lines : List ScriptLine) (i : ℕ) (line : ScriptLine) (old new : List ThreadId)
    → line ≡ get_or lines i line → i < length lines → new ≡ old ++ forked (line ∷ [])
    → old ≡ forked (take i lines) → new ≡ forked (take (i + 1) lines)
forked_pushed lines i line old new is lt pushed before =
    pushed ∙ (ap (λ (ts : List ThreadId). ts ++ forked (line ∷ [])) before
    ∙ found_more fork_of lines i line is lt)

-- ends that serve a thread's lines among them serve all its lines
pub serves_all : (t : ThreadId) (lines : List ScriptLine) (reach : Reach)
    → Serves reach (lines_by t (filter is_link lines)) → Serves reach (lines_by t lines)
serves_all t lines reach h = record {
  forks = h.forks ∙ among_links fork_of no_fork t lines;
  joins = h.joins ∙ among_links join_of no_join t lines;
}

-- they are lines of the script
pub contains_link : (script lines : List ScriptLine) (i : ℕ) (line : ScriptLine)
    → lines ≡ filter is_link script → line ≡ get_or lines i line → i < length lines → Contains script line
contains_link script lines i line same is lt =
    let all = All-filter is_link (Contains script) script (All-contains_itself script) in
    let within = subst (λ (ls : List ScriptLine). All (Contains script) ls) (sym same) all in
    subst (Contains script) (sym is) (All-get_or (Contains script) lines i line lt within)

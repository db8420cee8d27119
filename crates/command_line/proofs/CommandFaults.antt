-- What clap answers to the words of the program: the kinds of their faults, or the command that was met.
use Rattle.std.proofs.Common.{◌≡◌, ◌∙◌, List, [], ◌∷◌, Bool, true, refl, sym, ap, subst, inl, inr}
use Rattle.std.proofs.Math.Bool.{or-true}
use Rattle.std.specs.List.{list_any}
use Rattle.clap.specs.Values.{kind_of}
use Rattle.clap.specs.Kinds.{HasKind, IsAmong, Kinds}
use Rattle.clap.specs.Walk.{Text}
use Rattle.clap.specs.Simple.{App, HasMatchesOf, is_simple, subcommand_of, subcommand_rows_of}
use Rattle.clap.specs.Faults.{fault_of, is_simple_and_free}
use Rattle.clap.specs.declared.error.Error.{Error}
use Rattle.clap.specs.declared.error.kind.ErrorKind.{ErrorKind}
use Rattle.clap.specs.declared.parser.matches.ArgMatches.{ArgMatches}
use Rattle.command_line.specs.Commands.{wcp}
use Rattle.command_line.specs.Requests.{IsFaultAt, TellsKind, faults_of, is_answer, is_mistake}
use Rattle.command_line.specs.declared.requests.UsageFault.{UsageFault}
use Rattle.command_line.specs.declared.requests.UsageFault.TheVariants as faults

among : (p : ErrorKind → Bool) (k : ErrorKind) (ks : Kinds) → IsAmong k ks → p k ≡ true → list_any p ks ≡ true
among p k [] a h = absurd a
among p k (x ∷ xs) (inl is) h =
    let here : p x ≡ true = ap p (sym is) ∙ h in
    rw here refl
among p k (x ∷ xs) (inr a) h = rw (among p k xs a h) (or-true (p x))

-- the fault is one that the words have where its kind is
pub fault_is : (words : List Text) (e : Error) (f : UsageFault) → HasKind (faults_of words) e
    → TellsKind (kind_of e) f → IsFaultAt words f
fault_is words e (faults.Help text) h k = elim h [
  | inl memory ↦ absurd (k.1 memory)
  | inr a ↦ among is_answer (kind_of e) (faults_of words) a k.0
]
fault_is words e (faults.Usage text) h k = elim h [
  | inl memory ↦ absurd (k.1 memory)
  | inr a ↦ among is_mistake (kind_of e) (faults_of words) a k.0
]
fault_is words e faults.OutOfMemory h k = tt

pub simple_and_free : is_simple_and_free wcp ≡ true
unfolding wcp
simple_and_free = refl

pub simple : is_simple wcp ≡ true
unfolding wcp
simple = refl

-- the program wants a command
pub needs_command : wcp.top.subcommand_required ≡ true
unfolding wcp
needs_command = refl

-- ---- what a parse answers

-- clap has the command lines of the program
pub has_no_fault : (a : App) (words : List Text) → a ≡ wcp
    → (is_simple_and_free a ≡ true → fault_of a words ≡ []) → faults_of words ≡ []
unfolding faults_of
has_no_fault a words is h =
    sym (ap (λ (x : App). fault_of x words) is) ∙ h (ap is_simple_and_free is ∙ simple_and_free)

-- the error of a parse is a fault of the words
pub has_fault : (a : App) (words : List Text) (e : Error) → a ≡ wcp
    → (is_simple_and_free a ≡ true → HasKind (fault_of a words) e) → HasKind (faults_of words) e
unfolding faults_of
has_fault a words e is h =
    subst (λ (x : App). HasKind (fault_of x words) e) is (h (ap is_simple_and_free is ∙ simple_and_free))

-- a parse met the command that the words name
pub has_command : (a : App) (words : List Text) (m : ArgMatches) → a ≡ wcp → HasMatchesOf a words m
    → subcommand_rows_of m ≡ subcommand_of wcp words
has_command a words m is has =
    (has (ap is_simple is ∙ simple)).1 ∙ ap (λ (x : App). subcommand_of x words) is

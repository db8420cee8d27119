-- What follows where there is an answer, and where there is none.
use Rattle.std.proofs.Common.{Option, Some, None, Result, Ok, Err}
use Rattle.std.specs.Prelude.{MatchOption, IfSome, OnErr}

-- what follows in both cases of an option follows of the option
pub match_option : {X : Type 0} (o : Option X) (P S : Type 0) (Q R : X → Type 0) → (P → S)
    → ((x : X) → Q x → R x) → MatchOption o P Q → MatchOption o S R
match_option None P S Q R none some h = none h
match_option (Some x) P S Q R none some h = some x h

-- what follows where there is a value
pub if_some : {X : Type 0} (o : Option X) (P : Type 0) (Q R : X → Type 0) → ((x : X) → Q x → R x)
    → MatchOption o P Q → IfSome o R
if_some None P Q R some h = tt
if_some (Some x) P Q R some h = some x h

-- what holds anyhow holds where the answer is an error
pub where_err : {T E : Type 0} (r : Result T E) (P : Type 0) → P → OnErr r P
where_err (Ok x) P h = tt
where_err (Err e) P h = h

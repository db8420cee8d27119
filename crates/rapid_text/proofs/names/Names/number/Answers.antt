use Rattle.std.proofs.Common.{◌≡◌, Some, Ok, sym, subst, ◌∙◌}
use Rattle.rapid_text.specs.Numbers.{Numbered, found_number}
use Rattle.rapid_text.proofs.NameGrowth.{number_grows, number_named, TablesGrow-refl}
use Rattle.rapid_text.proofs.NamePlaces.{known_place, too_many_exactly}
use Rattle.rapid_text.proofs.names.Names.number.Goals as goal

pub returns-in-Some-clause-ok : goal.returns-in-Some-clause-ok
returns-in-Some-clause-ok c =
    known_place c.args.self.now c.args.kind c.args.name.now c.in-Some.number
    (sym (subst (λ (s : Numbered). found_number s c.args.name.now ≡ Some c.in-Some.number) c.space.ensures
    c.in-Some.ensures))

pub returns-in-Some-clause-too_many : goal.returns-in-Some-clause-too_many
returns-in-Some-clause-too_many c = (
  λ other. absurd cc,
  λ none. let clash = sym (returns-in-Some-clause-ok c) ∙ none in absurd cc,
)

pub returns-in-Some-clause-named : goal.returns-in-Some-clause-named
returns-in-Some-clause-named c =
    number_named c.args.self.now c.args.self.now c.args.kind c.args.name.now (Ok c.in-Some.number)
    (returns-in-Some-clause-ok c)

pub returns-in-Some-clause-grows : goal.returns-in-Some-clause-grows
returns-in-Some-clause-grows c = TablesGrow-refl c.args.self.now

pub returns-clause-too_many : goal.returns-clause-too_many
returns-clause-too_many c =
    let made = c.search_or_add.ensures in
    too_many_exactly c.args.self.now c.search_or_add.new.self c.args.kind c.args.name.now
    c.search_or_add.result made.ok made.too_many made.room made.new_only

pub returns-clause-named : goal.returns-clause-named
returns-clause-named c =
    number_named c.args.self.now c.search_or_add.new.self c.args.kind c.args.name.now c.search_or_add.result
    c.search_or_add.ensures.ok

pub returns-clause-grows : goal.returns-clause-grows
returns-clause-grows c =
    number_grows c.args.self.now c.search_or_add.new.self c.args.kind c.args.name.now c.search_or_add.result
    c.search_or_add.ensures.ok c.search_or_add.ensures.err

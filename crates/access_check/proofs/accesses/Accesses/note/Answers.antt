use Rattle.std.proofs.Common.{◌≡◌, ◌<◌, ◌≤◌, List, ◌++◌, ℕ, length, take, drop, sym, ap, ap₂, subst, ◌∙◌}
use Rattle.std.proofs.Common.{arith, ◌+◌, cond, nat_eq}
use Rattle.std.proofs.Math.Seq.{take-append_seam}
use Rattle.access_check.specs.declared.variable_accesses.VariableAccesses.{VariableAccesses}
use Rattle.access_check.specs.LastAccesses.{AreNarrow}
use Rattle.access_check.specs.VariableAccesses.{kept, of_kind}
use Rattle.access_check.specs.Tables.{AccessTables, IsReadyFor, accesses_at, count_at, accesses_after}
use Rattle.access_check.proofs.NoteLaws.{note_stands}
use Rattle.access_check.proofs.accesses.Accesses.note.Goals as goal

-- a list that was lent whole is written back
written : {A : Type 0} (n : ℕ) (xs ys : List A) → n ≡ length xs → take n (xs ++ drop (length xs) ys) ≡ xs
written n xs ys is =
    ap (λ k. take k (xs ++ drop (length xs) ys)) is ∙ take-append_seam xs (drop (length xs) ys)

pub invariant_of-self : goal.invariant_of-self
invariant_of-self c =
    let counts = written c.self.inside.counts.len c.count_event-position.new.counts c.self.inside.counts.items
    (omega arith) in
    let vars = written c.self.inside.vars.len c.note_access.new.vars c.self.inside.vars.items (omega arith) in
    let few : length c.self.inside.counts.items ≤ c.self.inside.limits.threads = c.self.invariant.few in
    let same : length c.self.inside.counts.items ≡ length c.args.self.now.counts
    = ap (λ (t : AccessTables). length t.counts) c.self.view_is in
    let within : c.args.event.now.thread.0 < length c.args.self.now.counts = c.requires.room.thread in
    rw (counts, vars) (record {
      few = omega arith;
      narrow = c.note_access.ensures.narrow c.self.inside.limits.threads (omega arith)
          (λ y k. subst (λ ls. AreNarrow c.self.inside.limits.threads (kept k (accesses_at ls y)))
          (sym c.deref_mut-2.ensures.value)
          (c.self.invariant.narrow y k));
    })

pub returns-clause-exact : goal.returns-clause-exact
returns-clause-exact c =
    let t = c.args.event.now.thread in
    let counts = written c.self.inside.counts.len c.count_event-position.new.counts c.self.inside.counts.items
    (omega arith) in
    let vars = written c.self.inside.vars.len c.note_access.new.vars c.self.inside.vars.items (omega arith) in
    let had = c.deref_mut.ensures.value ∙ ap (λ (v : AccessTables). v.counts) c.self.view_is in
    let position = c.count_event-position.ensures.position
    ∙ ap (λ (ns : List ℕ). count_at ns t.0 + 1) had in
    record {
      limits = ap (λ (v : AccessTables). v.limits) c.self.view_is;
      counts = λ u. ap (λ (ns : List ℕ). count_at ns u) counts ∙ c.count_event-position.ensures.counts u
          ∙ ap (λ (ns : List ℕ). cond (nat_eq u t.0) (count_at ns u + 1) (count_at ns u)) had;
      accesses = λ x m. ap (λ (vs : List VariableAccesses). kept m (accesses_at vs x)) vars
          ∙ c.note_access.ensures.accesses x m
          ∙ ap₂ (λ (n : ℕ) (vs : List VariableAccesses). accesses_after c.args.verdict t c.args.event.now.op
          (record { index = c.args.index; position = n }) x m (accesses_at vs x)) position
          (c.deref_mut-2.ensures.value ∙ ap (λ (v : AccessTables). v.vars) c.self.view_is);
    }

pub returns-clause-kept : goal.returns-clause-kept
returns-clause-kept c o room =
    let t = c.args.event.now.thread in
    let counts = written c.self.inside.counts.len c.count_event-position.new.counts c.self.inside.counts.items
    (omega arith) in
    let vars = written c.self.inside.vars.len c.note_access.new.vars c.self.inside.vars.items (omega arith) in
    let had = ap (λ (ns : List ℕ). length ns) c.deref_mut.ensures.value
    ∙ ap (λ (v : AccessTables). length v.counts) c.self.view_is in
    let were = c.deref_mut-2.ensures.value ∙ ap (λ (v : AccessTables). v.vars) c.self.view_is in
    record {
      thread = subst (λ (ns : List ℕ). t.0 < length ns) (sym counts) (omega (arith, room.thread, had));
      access = subst (λ (vs : List VariableAccesses). IsReadyFor vs t o) (sym vars)
          (c.note_access.ensures.kept o
          (subst (λ (vs : List VariableAccesses). IsReadyFor vs t o) (sym were) room.access));
    }

pub returns-clause-memory : goal.returns-clause-memory
returns-clause-memory c =
    let counts = written c.self.inside.counts.len c.count_event-position.new.counts c.self.inside.counts.items
    (omega arith) in
    let vars = written c.self.inside.vars.len c.note_access.new.vars c.self.inside.vars.items (omega arith) in
    let had_counts = c.deref_mut.ensures.value ∙ ap (λ (v : AccessTables). v.counts) c.self.view_is in
    let had_vars = c.deref_mut-2.ensures.value ∙ ap (λ (v : AccessTables). v.vars) c.self.view_is in
    rw (counts, vars) (record {
      counts = c.count_event-position.ensures.as_many ∙ ap (λ (ns : List ℕ). length ns) had_counts;
      vars = c.note_access.ensures.as_many ∙ ap (λ (vs : List VariableAccesses). length vs) had_vars;
      count_room = ap (λ (v : AccessTables). v.count_room) c.self.view_is;
      var_room = ap (λ (v : AccessTables). v.var_room) c.self.view_is;
      lasts = λ y k. c.note_access.ensures.memory y k
          ∙ ap (λ (vs : List VariableAccesses). (of_kind k (accesses_at vs y)).reserved) had_vars;
      others = λ other. c.note_access.ensures.others other ∙ had_vars;
    })

pub returns-clause-stands : goal.returns-clause-stands
returns-clause-stands c = λ log stands at well verdict.
    note_stands c.args.self.now _ log c.args.event.now c.args.index c.args.verdict
    (returns-clause-exact c) stands at well verdict

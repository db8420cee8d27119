use Rattle.std.proofs.Common.{rules, length-set, get_or, ◌∙◌, arith}
use Rattle.std.proofs.lemmas.Bool.{eq-eqb}
use Rattle.event_core.specs.declared.ids.LockId.{LockId}
use Rattle.section_sum.specs.Cells.{cell_place}
use Rattle.section_sum.specs.Entries.{entries_of}
use Rattle.section_sum.proofs.CellsProperties.{own_place}
use Rattle.section_sum.proofs.IsKeptProperties.{marks_changed, kept_other}
use Rattle.section_sum.proofs.LocksProperties.{is_held_at, alone_still, noted_step}
use Rattle.section_sum.proofs.LockSumsProperties.{here_at, kept_read, kept_set, says_other, says_marked}
use Rattle.section_sum.proofs.locks.note_held.Goals as goal

pub index_mut-kept-requires : goal.index_mut-kept-requires
index_mut-kept-requires c =
    let here = here_at c.args.thread.0 c.args.var.0 c.args.kind c.args.held.now c.loop-lock.lock-index
    (record { 0 = 0 }) (entries_of c.args.cells.now c.args.locks.now.items) c.loop-lock-test.true
    c.loop-lock.invariant.kept c.loop-lock.invariant.noted c.requires.ready in
    search (rules, here.within)

pub note-requires : goal.note-requires
note-requires c =
    let here = here_at c.args.thread.0 c.args.var.0 c.args.kind c.args.held.now c.loop-lock.lock-index
    (record { 0 = 0 }) (entries_of c.args.cells.now c.args.locks.now.items) c.loop-lock-test.true
    c.loop-lock.invariant.kept c.loop-lock.invariant.noted c.requires.ready in
    record {
      kept = kept_read _ c.loop-lock.cells c.loop-lock.locks.items c.index_mut-kept.result.now here.within
          c.loop-lock.invariant.kept c.index_mut-kept.ensures.value;
      ready = here.place;
    }

pub loop-lock-preserved : goal.loop-lock-preserved
loop-lock-preserved c =
    let l : LockId = get_or c.args.held.now c.loop-lock.lock-index (record { 0 = 0 }) in
    let before = entries_of c.args.cells.now c.args.locks.now.items in
    let mid = entries_of c.loop-lock.cells c.loop-lock.locks.items in
    let here = here_at c.args.thread.0 c.args.var.0 c.args.kind c.args.held.now c.loop-lock.lock-index
    (record { 0 = 0 }) before c.loop-lock-test.true
    c.loop-lock.invariant.kept c.loop-lock.invariant.noted c.requires.ready in
    let changed = marks_changed l.0 (cell_place c.loop-lock.cells.places l.0 c.args.var.0) c.args.kind
    c.loop-lock.cells c.note.new.cells (c.loop-lock.invariant.kept 0).same
    (eq-eqb _ _ (own_place c.loop-lock.cells.places l.0 c.args.var.0 here.place))
    (record {
      places = c.note.ensures.places;
      same = c.note.ensures.kept.same;
      exact = c.note.ensures.exact;
    }) in
    record {
      kept = kept_set l.0 c.note.new.cells c.loop-lock.locks.items c.note.new.self here.within
          c.note.ensures.kept
          (λ m n. kept_other l.0 m c.loop-lock.cells c.note.new.cells _ n changed
          (c.loop-lock.invariant.kept m));
      noted = noted_step c.args.thread.0 c.args.var.0 c.args.kind c.args.held.now c.loop-lock.lock-index
          (record { 0 = 0 }) before mid _ c.loop-lock-test.true c.loop-lock.invariant.noted
          (says_marked l.0 c.args.thread.0 c.args.var.0 c.args.kind c.loop-lock.cells c.note.new.cells
          c.loop-lock.locks.items c.note.new.self here.within here.place c.note.ensures.by
          c.note.ensures.places c.note.ensures.exact
          (alone_still c.args.thread.0 c.args.var.0 c.args.kind _ (before l.0) (mid l.0)
          (c.loop-lock.invariant.noted l.0)
          (c.requires.alone l.0 (is_held_at c.args.held.now c.loop-lock.lock-index _ c.loop-lock-test.true))))
          (λ m n. says_other l.0 m c.loop-lock.cells c.note.new.cells c.loop-lock.locks.items
          c.note.new.self n changed);
      places = c.note.ensures.places ∙ c.loop-lock.invariant.places;
      count = length-set c.loop-lock.locks.items l.0 c.note.new.self ∙ c.loop-lock.invariant.count;
      fitted = λ was.
          let had = c.loop-lock.invariant.fitted was in
          let long = length-set c.loop-lock.locks.items l.0 c.note.new.self in omega (arith, had, long);
    }

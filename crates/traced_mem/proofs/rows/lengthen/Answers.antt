use Rattle.std.proofs.Common.{length, ap, refl, ◌∙◌, arith}
use Rattle.std.proofs.lemmas.List.{length_push}
use Rattle.event_core.proofs.Blanks.{blank_reads_same}
use Rattle.traced_mem.proofs.rows.lengthen.Goals as goal

pub growing-preserved : goal.growing-preserved
growing-preserved c = record {
  same = (λ i n. blank_reads_same 0 0 c.growing.cells.items _ c.push_reserved.ensures.items refl n i)
      ∙ c.growing.invariant.same;
  room = c.push_reserved.ensures.capacity ∙ c.growing.invariant.room;
  most = omega (
    arith,
    ap length c.push_reserved.ensures.items,
    length_push c.growing.cells.items 0,
    c.growing.invariant.most,
    c.growing-test.true,
  );
}

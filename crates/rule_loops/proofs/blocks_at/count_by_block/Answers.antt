use Rattle.std.proofs.Common.{◌+◌, arith}
use Rattle.plane_terms.specs.Lists.{how_many}
use Rattle.plane_terms.specs.Line.{holds_place}
use Rattle.plane_terms.specs.Segment.{Segment}
use Rattle.rule_loops.specs.Blocks.{block_of}
use Rattle.rule_loops.proofs.Below.{three_later, three_end, three_first, three_few}
use Rattle.rule_loops.proofs.blocks_at.count_by_block.Goals as goal

pub loop-k-init : goal.loop-k-init
loop-k-init c = record {
  counted = three_first (λ (t : Segment). holds_place t c.args.place) c.args.blocks.now;
  few = omega arith;
}

pub overflow_add-count : goal.overflow_add-count
overflow_add-count c =
    let few = three_few c.count_held.result (how_many (λ (t : Segment). holds_place t c.args.place) (block_of c.loop-k.k c.args.blocks.now))
    c.count_held.ensures in
    omega (arith, few, c.loop-k.invariant.few)

pub loop-k-preserved : goal.loop-k-preserved
loop-k-preserved c =
    let ts = c.args.blocks.now in
    record {
      counted = rw c.up_to_three-count.ensures (three_later (λ (t : Segment). holds_place t c.args.place) ts c.loop-k.k c.loop-k.count
          c.count_held.result c.count_held.ensures c.loop-k.invariant.counted);
      few = three_few c.up_to_three-count.result (c.loop-k.count + c.count_held.result) c.up_to_three-count.ensures;
    }

pub returns : goal.returns
returns c = three_end (λ (t : Segment). holds_place t c.args.place) c.args.blocks.now c.loop-k.k c.loop-k.count
    c.loop-k.invariant.few (omega (arith, c.count-k-end.ensures)) c.loop-k.invariant.counted

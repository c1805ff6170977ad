use Rattle.std.proofs.Common.{◌≡◌, ◌≤◌, ◌+◌}
use Rattle.plane_terms.specs.Lists.{how_many}
use Rattle.plane_terms.specs.Line.{holds_place}
use Rattle.rule_loops.specs.Blocks.{left_from}
use Rattle.rule_loops.specs.Views.{up_to_three}
use Rattle.rule_loops.proofs.blocks_at.count_by_block.Given as goal

abbrev pub invariant-loop-k : goal.invariant-loop-k
invariant-loop-k l = record {
  counted : up_to_three (l.count + how_many (λ t. holds_place t l.place) (left_from l.k l.blocks))
      ≡ up_to_three (how_many (λ t. holds_place t l.place) l.blocks);
  few : l.count ≤ 3;
}

use Rattle.std.proofs.Common.{sym, ◌∙◌}
use Rattle.grid_index.specs.Relations.{stands}
use Rattle.dirty_area.proofs.Joins.{passed_at}
use Rattle.dirty_area.proofs.finder.any_standing.Goals as goal

pub returns-then-has : goal.returns-then-has
returns-then-has c = sym (passed_at (λ s. stands c.args.relation s c.args.r.now) c.args.blocks.now c.loop-block.block-index c.block-item.result
    c.loop-block-test.true c.block-item.is (sym c.has.ensures ∙ c.if-has.true))

use Rattle.rule_loops.proofs.blocks_at.count_on.Goals as goal

pub returns : goal.returns
returns c = rw (c.of.ensures) at c.count_by_block.ensures

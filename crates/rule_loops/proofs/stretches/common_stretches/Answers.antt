use Rattle.rule_loops.proofs.stretches.common_stretches.Goals as goal

pub returns : goal.returns
returns c = rw (c.shape.ensures, c.shape-2.ensures) at c.each_pair.ensures

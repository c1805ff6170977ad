use Rattle.rule_loops.proofs.inner.common_but_ends.Goals as goal

pub returns : goal.returns
returns c = rw (c.shape.ensures, c.shape-2.ensures, c.shape-3.ensures, c.shape-4.ensures) at c.each_pair.ensures

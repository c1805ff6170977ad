use Rattle.version_tree.proofs.Current.{alone_tree, turned_after}
use Rattle.version_tree.proofs.tree.Tree.add_rule.Goals as goal

pub invariant_of-self : goal.invariant_of-self
invariant_of-self g c = alone_tree _ _ _ _ _ (rw (← c.self.view_is, ← c.self-inside.view_is) at c.requires.alone) (rw (← c.self-inside.view_is) at c.self.invariant)

pub returns-clause-refused : goal.returns-clause-refused
returns-clause-refused g c = rw (← c.self.view_is, ← c.self-inside.view_is) c.add_rule.ensures.refused

pub returns-clause-err : goal.returns-clause-err
returns-clause-err g c = rw (← c.self.view_is, ← c.self-inside.view_is) (turned_after _ _ _ _ _ c.add_rule.result c.add_rule.ensures.err)

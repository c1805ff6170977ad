use Rattle.version_tree.proofs.Current.{set_tree, turned_after}
use Rattle.version_tree.proofs.tree.Tree.swap.Goals as goal

pub invariant_of-self : goal.invariant_of-self
invariant_of-self g c = set_tree _ _ _ _ _ _ _ c.swap.result (rw (← c.self-inside.view_is) at c.self.invariant) c.swap.ensures.ok c.swap.ensures.err

pub returns-clause-err : goal.returns-clause-err
returns-clause-err g c = rw (← c.self.view_is, ← c.self-inside.view_is) (turned_after _ _ _ _ _ c.swap.result c.swap.ensures.err)

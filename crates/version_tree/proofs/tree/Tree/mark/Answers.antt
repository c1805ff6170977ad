use Rattle.version_tree.proofs.Current.{marked_tree, turned_after}
use Rattle.version_tree.proofs.tree.Tree.mark.Goals as goal

pub invariant_of-self : goal.invariant_of-self
invariant_of-self g c = marked_tree _ _ _ _ _ _ _ _ _ c.mark.result (rw (← c.self-inside.view_is) at c.self.invariant) c.mark.ensures.ok c.mark.ensures.err

pub returns-clause-refused : goal.returns-clause-refused
returns-clause-refused g c = rw (← c.self.view_is, ← c.self-inside.view_is) c.mark.ensures.refused

pub returns-clause-err : goal.returns-clause-err
returns-clause-err g c = rw (← c.self.view_is, ← c.self-inside.view_is) (turned_after _ _ _ _ _ c.mark.result c.mark.ensures.err)

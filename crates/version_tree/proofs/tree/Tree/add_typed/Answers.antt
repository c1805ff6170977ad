use Rattle.version_tree.proofs.Current.{added_tree, turned_after}
use Rattle.version_tree.proofs.tree.Tree.add_typed.Goals as goal

pub invariant_of-self : goal.invariant_of-self
invariant_of-self g c = added_tree _ _ _ _ _ _ _ _ c.add_typed.result (rw (← c.self-inside.view_is) at c.self.invariant) c.add_typed.ensures.ok c.add_typed.ensures.err

pub returns-clause-refused : goal.returns-clause-refused
returns-clause-refused g c = rw (← c.self.view_is, ← c.self-inside.view_is) c.add_typed.ensures.refused

pub returns-clause-err : goal.returns-clause-err
returns-clause-err g c = rw (← c.self.view_is, ← c.self-inside.view_is) (turned_after _ _ _ _ _ c.add_typed.result c.add_typed.ensures.err)

pub returns-clause-ok : goal.returns-clause-ok
returns-clause-ok g c = rw (← c.self.view_is, ← c.self-inside.view_is) c.add_typed.ensures.ok

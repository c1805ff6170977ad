use Rattle.version_tree.proofs.Current.{set_tree, turned_after}
use Rattle.version_tree.proofs.tree.Tree.retype.Goals as goal

pub invariant_of-self : goal.invariant_of-self
invariant_of-self g c = set_tree _ _ _ _ _ _ _ c.retype.result (rw (← c.self-inside.view_is) at c.self.invariant) c.retype.ensures.ok c.retype.ensures.err

pub returns-clause-was : goal.returns-clause-was
returns-clause-was g c = rw (← c.self.view_is, ← c.self-inside.view_is) c.retype.ensures.was

pub returns-clause-refused : goal.returns-clause-refused
returns-clause-refused g c = rw (← c.self.view_is, ← c.self-inside.view_is) c.retype.ensures.refused

pub returns-clause-err : goal.returns-clause-err
returns-clause-err g c = rw (← c.self.view_is, ← c.self-inside.view_is) (turned_after _ _ _ _ _ c.retype.result c.retype.ensures.err)

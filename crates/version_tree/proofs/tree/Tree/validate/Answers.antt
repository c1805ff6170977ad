use Rattle.version_tree.proofs.Current.{turned_after, validated_tree}
use Rattle.version_tree.proofs.tree.Tree.validate.Goals as goal

pub invariant_of-self : goal.invariant_of-self
invariant_of-self g c = validated_tree g.R.RuleSet.meaning _ _ _ _ _ _ c.validate.result (rw (← c.self-inside.view_is) at c.self.invariant) c.validate.ensures.ok c.validate.ensures.err

pub returns-clause-err : goal.returns-clause-err
returns-clause-err g c = rw (← c.self.view_is, ← c.self-inside.view_is) (turned_after _ _ _ _ _ c.validate.result c.validate.ensures.err)

pub returns-clause-stopped : goal.returns-clause-stopped
returns-clause-stopped g c = rw (← c.self.view_is, ← c.self-inside.view_is) c.validate.ensures.stopped

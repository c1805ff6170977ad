use Rattle.rule_core.proofs.work.Work.keep.Goals as goal

pub returns-in-Outside-clause-recent : goal.returns-in-Outside-clause-recent
returns-in-Outside-clause-recent c = rw (c.in-Outside.is, ← c.self.view_is) (rw (c.in-Outside.is) at c.keep_in-in-Outside.ensures.recent)

use Rattle.dirty_area.proofs.Calls.{add_all-none, add_all-one}
use Rattle.dirty_area.proofs.list.add_some.Goals as goal

pub returns-in-Some-clause-added : goal.returns-in-Some-clause-added
returns-in-Some-clause-added c = rw (c.in-Some.is, add_all-one) c.add_in.ensures.added

pub returns-in-None-clause-added : goal.returns-in-None-clause-added
returns-in-None-clause-added c = rw (c.in-None.is, add_all-none)

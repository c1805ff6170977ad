use Rattle.dirty_area.proofs.Calls.{add_all-none, add_all-one}
use Rattle.dirty_area.proofs.cut.add_piece.Goals as goal

pub returns-in-Some-clause-dirt : goal.returns-in-Some-clause-dirt
returns-in-Some-clause-dirt c = rw (c.in-Some.is, add_all-one) c.add_one.ensures.dirt

pub returns-in-Some-clause-round : goal.returns-in-Some-clause-round
returns-in-Some-clause-round c = rw (c.in-Some.is, add_all-one) c.add_one.ensures.round

pub returns-in-None-clause-dirt : goal.returns-in-None-clause-dirt
returns-in-None-clause-dirt c = rw (c.in-None.is, add_all-none)

pub returns-in-None-clause-round : goal.returns-in-None-clause-round
returns-in-None-clause-round c = rw (c.in-None.is, add_all-none)

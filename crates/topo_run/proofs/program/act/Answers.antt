use Rattle.topo_run.proofs.program.act.Goals as goal

pub returns-in-Replay-clause-ends : goal.returns-in-Replay-clause-ends
returns-in-Replay-clause-ends g c = rw c.in-Replay.is (record { ends = c.replay.ensures.ends })

pub returns-in-ReplayOf-clause-ends : goal.returns-in-ReplayOf-clause-ends
returns-in-ReplayOf-clause-ends g c = rw c.in-ReplayOf.is (record { ends = c.replay_of.ensures.ends })

pub returns-in-ReplayTo-clause-ends : goal.returns-in-ReplayTo-clause-ends
returns-in-ReplayTo-clause-ends g c = rw c.in-ReplayTo.is (record { ends = c.replay_to.ensures.ends })

pub returns-in-Check-clause-ends : goal.returns-in-Check-clause-ends
returns-in-Check-clause-ends g c = rw c.in-Check.is (record { ends = c.check.ensures.ends })

pub returns-in-Report-clause-ends : goal.returns-in-Report-clause-ends
returns-in-Report-clause-ends g c = rw c.in-Report.is (record { ends = c.report.ensures.ends })

pub returns-in-Town-clause-ends : goal.returns-in-Town-clause-ends
returns-in-Town-clause-ends g c = rw c.in-Town.is (record { ends = c.town.ensures.ends })

pub returns-in-Unknown-clause-ends : goal.returns-in-Unknown-clause-ends
returns-in-Unknown-clause-ends g c = rw c.in-Unknown.is (record { ends = c.say_usage.ensures.usage })

use Rattle.outside_terms.specs.Reads.{Passage}
use Rattle.topo_run.proofs.Saying.{reported_said}
use Rattle.topo_run.proofs.report.say_report.Goals as goal

pub returns-in-Ok-clause-ends : goal.returns-in-Ok-clause-ends
returns-in-Ok-clause-ends g c =
    let k : Passage = record {
      old = g.K.Sink.written c.args.sink.now;
      new = g.K.Sink.written c.say.new.sink;
      before = g.K.Sink.faults c.args.sink.now;
      now = g.K.Sink.faults c.say.new.sink;
    } in
    reported_said c.args.saved.now k c.say.result (rw (c.deref.ensures.value, c.in-Ok.ensures) at c.say.ensures.says)

use Rattle.outside_terms.specs.Reads.{Passage}
use Rattle.topo_run.proofs.Saying.{checked_said}
use Rattle.topo_run.proofs.check.say_checked.Goals as goal

pub returns-clause-ends : goal.returns-clause-ends
returns-clause-ends g c =
    let k : Passage = record {
      old = g.K.Sink.written c.args.sink.now;
      new = g.K.Sink.written c.say.new.sink;
      before = g.K.Sink.faults c.args.sink.now;
      now = g.K.Sink.faults c.say.new.sink;
    } in
    checked_said c.args.saved c.in-Ok.found k c.say.result c.in-Ok.ensures
    (rw (c.as_bytes.ensures.value, c.in-Ok-checked_text.ensures, c.checked_status.ensures) at c.say.ensures.says)

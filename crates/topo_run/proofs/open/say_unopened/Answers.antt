use Rattle.std.proofs.Common.{subst}
use Rattle.outside_terms.specs.Reads.{Passage}
use Rattle.topo_run.specs.Unopened.{IsUnopened}
use Rattle.topo_run.proofs.Saying.{wrong_said}
use Rattle.topo_run.proofs.open.say_unopened.Goals as goal

pub returns-in-Ok-clause-ends : goal.returns-in-Ok-clause-ends
returns-in-Ok-clause-ends g c = λ name h under.
    let k : Passage = record {
      old = g.K.Sink.written c.args.sink.now;
      new = g.K.Sink.written c.say.new.sink;
      before = g.K.Sink.faults c.args.sink.now;
      now = g.K.Sink.faults c.say.new.sink;
    } in
    wrong_said name h k c.in-Wrong.line c.in-Wrong.cause c.say.result (subst (IsUnopened name h) c.in-Wrong.is under)
    (rw (c.as_bytes.ensures.value, c.in-Ok.ensures) at c.say.ensures.says)

use Rattle.error_store.specs.FrameSets.{HasPlace}
use Rattle.error_store.proofs.Framing.{left_of}
use Rattle.std.proofs.Common.{sym}
use Rattle.error_store.proofs.frames.drop_frame.Goals as goal

pub returns-then-has-clause-left : goal.returns-then-has-clause-left
returns-then-has-clause-left c = λ q k. (k, λ e. rw (← e) (c.has.ensures.0 c.if-has.true))

pub returns-clause-left : goal.returns-clause-left
returns-clause-left c = left_of c.args.index.now c.take.new.self (HasPlace c.args.staying.now) c.args.frame.now c.take.ensures

pub returns-clause-kept : goal.returns-clause-kept
returns-clause-kept c = λ q k stay. (c.take.ensures q).1 (
  k,
  λ e.
      let t = c.has.ensures.1 (rw e at (stay (sym e))) in let f = c.if-has.false in cc,
)

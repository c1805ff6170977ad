use Rattle.std.proofs.Common.{inl, inr, refl}
use Rattle.std.proofs.lemmas.Result.{on_ok_weaker}
use Rattle.error_store.proofs.Framing.{kept_of, only_of}
use Rattle.error_store.proofs.frames.put_frame.Goals as goal

pub returns-then-has-clause-there : goal.returns-then-has-clause-there
returns-then-has-clause-there c = c.requires (c.has.ensures.0 c.if-has.true)

pub returns-then-has-clause-only : goal.returns-then-has-clause-only
returns-then-has-clause-only c = λ q k. inl k

pub returns-clause-there : goal.returns-clause-there
returns-clause-there c = on_ok_weaker c.put.result (λ g. (g c.args.frame.now).1 (inr refl)) c.put.ensures.ok

pub returns-clause-kept : goal.returns-clause-kept
returns-clause-kept c = kept_of c.put.result c.args.index.now c.put.new.self c.args.frame.now c.put.ensures.ok c.put.ensures.err

pub returns-clause-only : goal.returns-clause-only
returns-clause-only c = only_of c.put.result c.args.index.now c.put.new.self c.args.frame.now c.put.ensures.ok c.put.ensures.err

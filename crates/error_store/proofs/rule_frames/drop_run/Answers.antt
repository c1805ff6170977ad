use Rattle.std.proofs.Common.{[], subst}
use Rattle.std.proofs.lemmas.List.{take_all}
use Rattle.error_store.specs.Frames.{IsFrame, IsShared, LosesThose}
use Rattle.error_store.specs.Pairs.{all_entries}
use Rattle.error_store.proofs.Framing.{loses_none, loses_run}
use Rattle.error_store.proofs.rule_frames.drop_run.Goals as goal

pub loop-e-init : goal.loop-e-init
loop-e-init c = loses_none (IsFrame []) (IsShared c.args.rule (all_entries c.args.runs.now)) c.args.index.now (λ q s. s)

pub loop-e-preserved : goal.loop-e-preserved
loop-e-preserved c = loses_run (IsShared c.args.rule (all_entries c.args.runs.now)) c.args.run.now c.loop-e.e-index c.e-item.result c.args.index.now
    c.loop-e.index c.drop_unshared.new.index c.loop-e-test.true c.e-item.is c.loop-e.invariant (rw c.place_of.ensures at c.drop_unshared.ensures)

pub returns : goal.returns
returns c = subst (λ xs. LosesThose (IsFrame xs) (IsShared c.args.rule (all_entries c.args.runs.now)) c.args.index.now c.loop-e.index)
    (take_all c.loop-e.e-index c.args.run.now c.loop-e-test.false) c.loop-e.invariant

use Rattle.error_store.specs.Frames.{IsShared}
use Rattle.error_store.specs.Pairs.{all_entries}
use Rattle.error_store.proofs.Framing.{loses_one}
use Rattle.error_store.proofs.rule_frames.drop_unshared.Goals as goal

pub returns : goal.returns
returns c = loses_one (IsShared c.args.rule (all_entries c.args.runs.now)) c.args.index.now c.take.new.self c.args.frame.now c.take.ensures
    (λ s. let t = c.is_shared.ensures.1 s in let f = c.if-is_shared.false in cc)

use Rattle.error_store.specs.Pairs.{all_entries}
use Rattle.error_store.proofs.Staying.{framed_left, frames_dropped}
use Rattle.error_store.proofs.errors.drop_under.Goals as goal

pub returns-clause-framed : goal.returns-clause-framed
returns-clause-framed c = framed_left c.args.rule (all_entries c.args.runs.now) (all_entries c.drop_from.new.runs) c.args.frames.now
    c.drop_rule_frames.new.index c.drop_from.ensures.left c.drop_rule_frames.ensures c.requires.framed

pub returns-clause-only : goal.returns-clause-only
returns-clause-only c = frames_dropped c.args.rule (all_entries c.args.runs.now) (all_entries c.drop_from.new.runs) c.args.frames.now
    c.drop_rule_frames.new.index c.drop_from.ensures.left c.drop_rule_frames.ensures c.requires.only

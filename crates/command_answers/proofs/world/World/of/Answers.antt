use Rattle.command_answers.proofs.Headlines.{begun, begun_seen}
use Rattle.command_answers.proofs.world.World.of.Goals as goal

pub invariant_of-result : goal.invariant_of-result
invariant_of-result c = begun c.new.result.current.project c.new-2.result c.new-2.ensures

pub returns : goal.returns
returns c = begun_seen c.args.topology c.new.result c.new-2.result c.new.ensures c.new-2.ensures

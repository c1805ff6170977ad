use Rattle.rule_loops.proofs.Blocked.{round_env}
use Rattle.rule_loops.proofs.blocks.Blocks.of.Goals as goal

pub invariant_of-result : goal.invariant_of-result
invariant_of-result c =
    rw (c.segs.ensures.value, c.env.ensures) (
      c.frames.ensures,
      round_env c.args.shape.now (rw (c.segs.ensures.value) at c.segs.ensures.proper),
    )

use Rattle.std.proofs.Common.{◌≡◌}
use Rattle.topology_terms.specs.Tests.{holds_at}
use Rattle.rule_loops.specs.Blocks.{left_from}
use Rattle.rule_loops.proofs.blocks_at.is_on_one.Given as goal

abbrev pub invariant-loop-k : goal.invariant-loop-k
invariant-loop-k l = holds_at (left_from l.k l.blocks) l.place ≡ holds_at l.blocks l.place

use Rattle.std.proofs.Common.{sym, arith}
use Rattle.std.proofs.lemmas.List.{take_all}
use Rattle.rule_loops.proofs.blocks.first_of.Goals as goal

pub returns-then-segments-count : goal.returns-then-segments-count
returns-then-segments-count c = sym (take_all c.args.count c.args.segments.now (omega arith))

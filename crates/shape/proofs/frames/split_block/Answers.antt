use Rattle.std.proofs.Common.{sym, arith}
use Rattle.std.proofs.lemmas.List.{take_all, drop_all}
use Rattle.shape.proofs.frames.split_block.Goals as goal

pub returns-then-segments-lt-BLOCK-clause-block : goal.returns-then-segments-lt-BLOCK-clause-block
returns-then-segments-lt-BLOCK-clause-block c = sym (take_all 32 c.args.segments.now (omega arith))

pub returns-then-segments-lt-BLOCK-clause-later : goal.returns-then-segments-lt-BLOCK-clause-later
returns-then-segments-lt-BLOCK-clause-later c = sym (drop_all 32 c.args.segments.now (omega arith))

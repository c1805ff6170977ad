use Rattle.std.proofs.Common.{take}
use Rattle.plane_terms.specs.Lists.{Every}
use Rattle.sound_check.specs.Pairs.{LiesIn}
use Rattle.sound_check.proofs.entries.all_lie_in.Given as goal

abbrev pub invariant-loop-i : goal.invariant-loop-i
invariant-loop-i l = Every (LiesIn l.dirt l.others) (take l.i l.entries)

use Rattle.std.proofs.Common.{length}
use Rattle.column_cut.proofs.cut.+push_halves.Given as goal

abbrev pub decreases-push_halves : goal.decreases-push_halves
decreases-push_halves l = length l.rest.now

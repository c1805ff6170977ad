use Rattle.error_store.specs.Pairs.{all_entries}
use Rattle.error_store.proofs.Remarking.{AreRemarkedUpto}
use Rattle.error_store.proofs.marks.keep_marks.Given as goal

abbrev pub invariant-loop-e : goal.invariant-loop-e
invariant-loop-e l = AreRemarkedUpto (all_entries l.runs) l.e-index l.initial.fresh l.fresh

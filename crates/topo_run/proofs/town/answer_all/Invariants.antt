use Rattle.std.proofs.Common.{length, true}
use Rattle.text_terms.specs.Lines.{lines_of}
use Rattle.script_terms.specs.State.{empty_state}
use Rattle.topo_run.specs.Told.{IsTold}
use Rattle.topo_run.proofs.town.answer_all.Given as goal

abbrev pub invariant-loop-line : goal.invariant-loop-line
invariant-loop-line l =
    IsTold empty_state (lines_of true l.initial.rest) (lines_of true l.rest) l.world l.told.judged l.told.refused

abbrev pub decreases-loop-line : goal.decreases-loop-line
decreases-loop-line l = length l.rest

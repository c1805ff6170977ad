use Rattle.std.proofs.Common.{◌≡◌, length}
use Rattle.wkt_terms.specs.Runs.{spells}
use Rattle.text_fields.proofs.runs.spells.Given as goal

abbrev pub invariant-loop-rest : goal.invariant-loop-rest
invariant-loop-rest l = spells l.rest l.letters ≡ spells l.text l.word

abbrev pub decreases-loop-rest : goal.decreases-loop-rest
decreases-loop-rest l = length l.rest

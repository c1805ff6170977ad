use Rattle.std.proofs.Common.{◌≤◌, ◌+◌, length}
use Rattle.project_text.proofs.Steps.{IsBegun}
use Rattle.project_text.proofs.read.read_lines.Given as goal

abbrev pub invariant-loop-rest : goal.invariant-loop-rest
invariant-loop-rest l = record {
  begun : IsBegun l.text l.draft l.rest l.line;
  few : l.line + length l.rest ≤ length l.text + 1;
}

abbrev pub decreases-loop-rest : goal.decreases-loop-rest
decreases-loop-rest l = length l.rest

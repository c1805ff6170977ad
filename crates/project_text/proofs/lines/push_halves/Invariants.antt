use Rattle.std.proofs.Common.{◌≡◌, ◌++◌, drop}
use Rattle.project_text.specs.Pushed.{halves_text}
use Rattle.project_text.proofs.lines.push_halves.Given as goal

abbrev pub invariant-loop-i : goal.invariant-loop-i
invariant-loop-i l = l.out.items ++ halves_text (drop l.i l.cell) ≡ l.initial.out.items ++ halves_text l.cell

use Rattle.std.proofs.Common.{◌≤◌, ◌-◌, length, take}
use Rattle.project_terms.specs.Texts.{IsInner}
use Rattle.project_text.proofs.cut.line_end.Given as goal

abbrev pub invariant-loop-end : goal.invariant-loop-end
invariant-loop-end l = record {
  bound : l.end ≤ length l.text;
  inner : IsInner (take l.end l.text);
}

abbrev pub decreases-loop-end : goal.decreases-loop-end
decreases-loop-end l = length l.text - l.end

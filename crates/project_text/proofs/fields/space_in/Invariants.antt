use Rattle.std.proofs.Common.{◌≡◌, ◌≤◌, ◌-◌, length, take, drop}
use Rattle.project_terms.specs.Lines.{fields, fields_from}
use Rattle.project_text.proofs.fields.space_in.Given as goal

abbrev pub invariant-loop-end : goal.invariant-loop-end
invariant-loop-end l = record {
  bound : l.end ≤ length l.text;
  same : fields l.text ≡ fields_from (take l.end l.text) (drop l.end l.text);
}

abbrev pub decreases-loop-end : goal.decreases-loop-end
decreases-loop-end l = length l.text - l.end

use Rattle.std.proofs.Common.{◌≡◌, ◌≤◌, length, take}
use Rattle.text_terms.specs.Fields.{skip_end_blanks}
use Rattle.text_fields.proofs.fields.skip_end_blanks.Given as goal

abbrev pub invariant-loop-end : goal.invariant-loop-end
invariant-loop-end l = record {
  bound : l.end ≤ length l.text;
  same : skip_end_blanks l.text ≡ skip_end_blanks (take l.end l.text);
}

abbrev pub decreases-loop-end : goal.decreases-loop-end
decreases-loop-end l = l.end

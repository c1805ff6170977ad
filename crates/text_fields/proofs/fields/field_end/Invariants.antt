use Rattle.std.proofs.Common.{◌≡◌, ◌≤◌, ◌-◌, ◌++◌, length, take, drop}
use Rattle.text_terms.specs.Fields.{front_field, behind_field}
use Rattle.text_fields.proofs.fields.field_end.Given as goal

abbrev pub invariant-loop-end : goal.invariant-loop-end
invariant-loop-end l = record {
  bound : l.end ≤ length l.text;
  front : front_field l.text ≡ take l.end l.text ++ front_field (drop l.end l.text);
  behind : behind_field l.text ≡ behind_field (drop l.end l.text);
}

abbrev pub decreases-loop-end : goal.decreases-loop-end
decreases-loop-end l = length l.text - l.end

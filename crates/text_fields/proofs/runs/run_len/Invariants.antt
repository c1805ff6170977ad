use Rattle.std.proofs.Common.{◌≡◌, ◌≤◌, ◌-◌, ◌++◌, length, take, drop}
use Rattle.wkt_terms.specs.Runs.{front_of, behind}
use Rattle.text_fields.specs.Classes.{has}
use Rattle.text_fields.proofs.runs.run_len.Given as goal

abbrev pub invariant-loop-end : goal.invariant-loop-end
invariant-loop-end l = record {
  bound : l.end ≤ length l.text;
  front : front_of (has l.class) l.text ≡ take l.end l.text ++ front_of (has l.class) (drop l.end l.text);
  behind : behind (has l.class) l.text ≡ behind (has l.class) (drop l.end l.text);
}

abbrev pub decreases-loop-end : goal.decreases-loop-end
decreases-loop-end l = length l.text - l.end

use Rattle.std.proofs.Common.{◌≡◌, ◌≤◌, ◌-◌, ◌==◌, true, not, length, take}
use Rattle.std.specs.List.{list_all}
use Rattle.text_fields.proofs.fields.colon_in.Given as goal

abbrev pub invariant-loop-end : goal.invariant-loop-end
invariant-loop-end l = record {
  bound : l.end ≤ length l.text;
  before : list_all (λ b. not (b == 58)) (take l.end l.text) ≡ true;
}

abbrev pub decreases-loop-end : goal.decreases-loop-end
decreases-loop-end l = length l.text - l.end

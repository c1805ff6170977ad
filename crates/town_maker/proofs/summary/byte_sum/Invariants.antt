use Rattle.std.proofs.Common.{◌≡◌, ◌≤◌, ◌*◌, take}
use Rattle.std.specs.Prelude.{sum}
use Rattle.town_maker.proofs.summary.byte_sum.Given as goal

abbrev pub invariant-loop-b : goal.invariant-loop-b
invariant-loop-b l = record {
  total : l.total ≡ sum (take l.b-index l.text);
  bound : l.total ≤ 255 * l.b-index;
}

use Rattle.std.proofs.Common.{◌≡◌, ◌≤◌, ◌*◌, ◌^◌, ◌+ℤ◌, drop}
use Rattle.std.specs.Prelude.{unsigned_abs}
use Rattle.registry_rules.specs.Areas.{doubled_area_of}
use Rattle.registry_rules.proofs.min_area.doubled_area.Given as goal

abbrev pub invariant-loop-s : goal.invariant-loop-s
invariant-loop-s l = record {
  run : l.sum +ℤ doubled_area_of (drop l.s-index l.segs) ≡ doubled_area_of l.segs;
  short : unsigned_abs l.sum ≤ l.s-index * 2 ^ 46;
}

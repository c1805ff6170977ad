use Rattle.std.proofs.Common.{◌≤◌, [], ◌∷◌}
use Rattle.sound_check.specs.Off.{OffBetween}
use Rattle.sound_check.specs.Rest.{IsRest}
use Rattle.sound_check.proofs.off.is_off_by_carving.Given as goal

abbrev pub invariant-loop-i : goal.invariant-loop-i
invariant-loop-i l = record {
  start : l.fn.from ≤ l.i;
  rest : IsRest (OffBetween l.others l.fn.from l.i) (l.piece ∷ []) l.rest;
}

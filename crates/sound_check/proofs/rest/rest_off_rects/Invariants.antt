use Rattle.std.proofs.Common.{take}
use Rattle.plane_terms.specs.Dirt.{Covers}
use Rattle.sound_check.specs.Rest.{IsRest}
use Rattle.sound_check.proofs.rest.rest_off_rects.Given as goal

abbrev pub invariant-loop-rect : goal.invariant-loop-rect
invariant-loop-rect l = IsRest (λ p. ¬ (Covers (take l.rect-index l.rects) p)) l.fn.cells l.rest

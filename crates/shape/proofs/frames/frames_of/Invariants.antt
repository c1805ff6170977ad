use Rattle.std.proofs.Common.{◌≡◌, ℕ, ◌+◌, ◌*◌, ◌<◌, length, take, drop, Some}
use Rattle.std.specs.Prelude.{slice_get}
use Rattle.plane_terms.specs.Rectangle.{Rectangle}
use Rattle.shape.specs.Frames.{IsRound}
use Rattle.shape.proofs.frames.frames_of.Given as goal

abbrev pub invariant-loop-rest : goal.invariant-loop-rest
invariant-loop-rest l = record {
  rest : l.rest ≡ drop (32 * length l.frames.items) l.segments;
  few : 32 * length l.frames.items < length l.segments + 32;
  round : (k : ℕ) (r : Rectangle) → slice_get l.frames.items k ≡ Some r → IsRound r (take 32 (drop (32 * k) l.segments));
}

abbrev pub decreases-loop-rest : goal.decreases-loop-rest
decreases-loop-rest l = length l.rest

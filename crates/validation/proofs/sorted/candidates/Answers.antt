use Rattle.std.proofs.Common.{arith, to_z, of_z, w32}
use Rattle.std.proofs.lemmas.Int.{ints}
use Rattle.std.proofs.lemmas.List.{take_rest}
use Rattle.validation.proofs.TooFar.{between, upto_parted}
use Rattle.validation.proofs.sorted.candidates.Goals as goal

pub first_beyond-requires : goal.first_beyond-requires
first_beyond-requires c = rw take_rest (upto_parted (to_z w32 (of_z w32 c.x1.result)) c.args.rects.now c.first_from.result
    c.requires.sorted)

pub returns : goal.returns
returns c =
    rw take_rest (between c.args.r.now c.args.widest _ _ c.args.rects.now c.first_from.result c.first_beyond.result
    c.first_from.ensures.parted (rw take_rest at c.first_beyond.ensures.parted) (omega (arith, ints)) (omega (arith, ints))
    c.requires.enough c.first_from.ensures.bound)

use Rattle.grid_plane.proofs.Numbers.{constant_kept, factor_kept, same_half}
use Rattle.grid_plane.proofs.half.Half.packed.Goals as goal

pub returns : goal.returns
returns c = same_half c.args.op (factor_kept _ c.requires.a_fits) (factor_kept _ c.requires.b_fits) (constant_kept _ c.requires.c_fits)

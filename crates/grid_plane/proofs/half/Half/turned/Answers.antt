use Rattle.std.proofs.Common.{◌≡◌, ◌∙◌, ◌≤◌, ◌^◌, ℤ, pos, ◌-ℤ◌, neg_ℤ, unsigned_abs}
use mir.Syntax.{w64}
use mir.Val.{to_z, of_z}
use Rattle.grid_plane.proofs.Numbers.{neg_back, more_fits, same_half}
use Rattle.grid_plane.proofs.half.Half.turned.Goals as goal

pub returns : goal.returns
returns c = c.packed.ensures
    ∙ same_half c.args.op (factor c.a.result c.a.ensures.value c.a.ensures.valid.a_fits)
    (factor c.b.result c.b.ensures.value c.b.ensures.valid.b_fits)
    (neg_back c.c.result _ (rw (← c.c.ensures.value) at c.c.ensures.valid.c_fits) c.c.ensures.value)
  where
    factor : (z : ℤ) {v : ℤ} → z ≡ v → unsigned_abs v ≤ 2 ^ 23
        → to_z w64 (of_z w64 (pos 0 -ℤ to_z w64 (of_z w64 z))) ≡ neg_ℤ v
    factor z e small = neg_back z _ (rw e (more_fits _ small)) e

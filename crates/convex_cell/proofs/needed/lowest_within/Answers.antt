use Rattle.std.proofs.Common.{◌≡◌, to_z, of_z, w64, arith, ap, pos, ◌*ℤ◌, ◌≤ℤ◌, subst, sym, ℤ}
use Rattle.std.proofs.lemmas.Int.{ints}
use Rattle.plane_terms.specs.HalfPlane.{HalfPlane, turned, value_at}
use Rattle.plane_terms.specs.declared.op.Op.TheVariants.{Over}
use Rattle.convex_cell.proofs.Within.{lowest_at, lowest_back}
use Rattle.convex_cell.proofs.needed.lowest_within.Goals as goal

pub returns : goal.returns
returns c =
    let h = c.args.half.now in
    let g = turned h Over in
    let e = c.turned-turned.ensures in
    let valid = c.a.ensures.valid in
    let a : to_z w64 (of_z w64 c.a.result) ≡ g.a = omega (arith, ints, valid.a_fits, ap (λ (h : HalfPlane). h.a) e) in
    let b : to_z w64 (of_z w64 c.b.result) ≡ g.b = omega (arith, ints, valid.b_fits, ap (λ (h : HalfPlane). h.b) e) in
    let k : to_z w64 (of_z w64 c.c.result) ≡ g.c = omega (arith, ints, valid.c_fits, ap (λ (h : HalfPlane). h.c) e) in
    let left : to_z w64 (of_z w64 c.args.x.from) ≡ c.args.x.from = omega (arith, ints) in
    let right : to_z w64 (of_z w64 c.args.x.to) ≡ c.args.x.to = omega (arith, ints) in
    let low : to_z w64 (of_z w64 c.args.y.from) ≡ c.args.y.from = omega (arith, ints) in
    let high : to_z w64 (of_z w64 c.args.y.to) ≡ c.args.y.to = omega (arith, ints) in
    let u = c.highest-along.result in
    let v = c.highest-up.result in
    let value = lowest_back u v c.highest-along.ensures.fits c.highest-up.ensures.fits in
    λ p i. subst (λ (z : ℤ). (z *ℤ pos p.w) ≤ℤ value_at h p) (sym value) (lowest_at h p u v
    ((rw (a, k, left, right) at (c.highest-along.ensures.sound p.x p.w)) i.along.after i.along.before)
    ((rw (b, low, high) at (c.highest-up.ensures.sound p.y p.w)) i.up.after i.up.before))

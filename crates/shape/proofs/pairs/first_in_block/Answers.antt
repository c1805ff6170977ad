use Rattle.std.proofs.Common.{◌≡◌, ◌+◌, ◌*◌, ℕ, length, subst, arith}
use Rattle.shape.specs.Pairs.{IsFirstWithin}
use Rattle.shape.proofs.pairs.first_in_block.Goals as goal

pub loop-b-preserved : goal.loop-b-preserved
loop-b-preserved c =
    let a = c.args.a in
    let next : 32 * c.loop-b.b + 32 ≡ 32 * (c.loop-b.b + 1) = omega arith in
    subst (λ (n : ℕ). IsFirstWithin c.args.segs.now (32 * a) (32 * a + 32) (32 * a) n c.first_with-best.result) next
    c.first_with-best.ensures

pub returns : goal.returns
returns c =
    let a = c.args.a in
    let last : c.loop-b.b ≡ length c.args.frames.now = omega arith in
    subst (λ (n : ℕ). IsFirstWithin c.args.segs.now (32 * a) (32 * a + 32) (32 * a) (32 * n) c.loop-b.best) last c.loop-b.invariant

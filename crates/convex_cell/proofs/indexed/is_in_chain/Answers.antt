use Rattle.std.proofs.Common.{◌<◌, ◌∙◌, ◌-◌, sym, arith, length}
use Rattle.convex_cell.proofs.Chains.{begun_last, passed_on, none_passed}
use Rattle.convex_cell.proofs.indexed.is_in_chain.Goals as goal

pub loop-next-init : goal.loop-next-init
loop-next-init c = begun_last c.args.half.now c.args.halves.now c.args.from c.requires.last

pub loop-next-preserved : goal.loop-next-preserved
loop-next-preserved c =
    let n = c.loop-next.next in
    let l = c.loop-next.invariant in
    let b : n - 1 < length c.args.halves.now = omega (arith, l.fits, c.loop-next-test.true) in
    passed_on c.args.half.now c.args.halves.now n _ c.index-halves-i.result c.loop-next-test.true l (c.requires.before (n - 1) b)
    c.index-halves-i.is (sym c.is_same.ensures ∙ c.if-is_same.false)

pub returns : goal.returns
returns c = sym (none_passed c.args.half.now c.args.halves.now c.loop-next.next c.loop-next-test.false c.loop-next.invariant)

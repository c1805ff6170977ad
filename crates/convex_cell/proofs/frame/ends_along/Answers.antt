use Rattle.std.proofs.Common.{arith}
use Rattle.std.proofs.lemmas.Int.{ints}
use Rattle.convex_cell.proofs.Frames.{shadow_on_grid, has_low, has_high, low_end, high_end, ends_of}
use Rattle.convex_cell.proofs.frame.ends_along.Goals as goal

pub unreachable-requires : goal.unreachable-requires
unreachable-requires c =
    let r = c.shadow_of-range in
    let s = shadow_on_grid c.args.direction c.args.halves.now r.result r.ensures.shadow r.ensures.fits c.requires.some c.requires.on_grid in
    has_low s c.in_default.is

pub unreachable-requires-in_default-high : goal.unreachable-requires-in_default-high
unreachable-requires-in_default-high c =
    let r = c.shadow_of-range in
    let s = shadow_on_grid c.args.direction c.args.halves.now r.result r.ensures.shadow r.ensures.fits c.requires.some c.requires.on_grid in
    has_high s c.in_default-high.is

pub overflow_cast-result : goal.overflow_cast-result
overflow_cast-result c =
    let r = c.shadow_of-range in
    let s = shadow_on_grid c.args.direction c.args.halves.now r.result r.ensures.shadow r.ensures.fits c.requires.some c.requires.on_grid in
    let low = low_end s c.in-Some.low c.in-Some.is c.whole_before.result c.whole_before.ensures in
    omega (arith, ints, low.fits)

pub overflow_cast-result-2 : goal.overflow_cast-result-2
overflow_cast-result-2 c =
    let r = c.shadow_of-range in
    let s = shadow_on_grid c.args.direction c.args.halves.now r.result r.ensures.shadow r.ensures.fits c.requires.some c.requires.on_grid in
    let high = high_end s c.in-Some-high.high c.in-Some-high.is c.whole_before-2.result c.whole_before-2.ensures in
    omega (arith, ints, high.fits)

pub overflow_sub-result : goal.overflow_sub-result
overflow_sub-result c =
    let r = c.shadow_of-range in
    let s = shadow_on_grid c.args.direction c.args.halves.now r.result r.ensures.shadow r.ensures.fits c.requires.some c.requires.on_grid in
    let high = high_end s c.in-Some-high.high c.in-Some-high.is c.whole_before-2.result c.whole_before-2.ensures in
    omega (arith, ints, high.fits)

pub returns : goal.returns
returns c =
    let d = c.args.direction in
    let hs = c.args.halves.now in
    let r = c.shadow_of-range in
    let s = shadow_on_grid d hs r.result r.ensures.shadow r.ensures.fits c.requires.some c.requires.on_grid in
    ends_of d hs c.whole_before.result c.whole_before-2.result
    (low_end s c.in-Some.low c.in-Some.is c.whole_before.result c.whole_before.ensures)
    (high_end s c.in-Some-high.high c.in-Some-high.is c.whole_before-2.result c.whole_before-2.ensures)

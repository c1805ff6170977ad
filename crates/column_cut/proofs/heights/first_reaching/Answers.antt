use Rattle.std.proofs.Common.{◌+◌, ◌-◌, ◌/◌, arith}
use Rattle.column_cut.proofs.Apart.{apart_up_to}
use Rattle.column_cut.proofs.heights.first_reaching.Goals as goal

pub loop-low-preserved-then-ends_below : goal.loop-low-preserved-then-ends_below
loop-low-preserved-then-ends_below c =
    let m = c.loop-low.low + (c.loop-low.high - c.loop-low.low) / 2 in
    record {
      within = omega arith;
      fits = c.loop-low.invariant.fits;
      before = λ k d l. apart_up_to c.args.x.now c.args.slot.now c.args.stretches.now m k c.index-stretches-middle.result d c.requires
          (omega arith) c.if-ends_below.ensures l;
    }

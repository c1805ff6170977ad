use Rattle.std.proofs.Common.{arith}
use Rattle.std.proofs.lemmas.List.{length-set}
use Rattle.convex_cell.proofs.Chains.{put_chained}
use Rattle.convex_cell.proofs.indexed.IndexedCell.push.Goals as goal

pub invariant_of-self-2 : goal.invariant_of-self-2
invariant_of-self-2 c =
    λ w. put_chained c.self.inside.halves.items c.push-3.new.self.items c.self.inside.before.items c.push-2.new.self.items c.self.inside.last.items
    c.args.half.now c.slot_of-slot.result c.index.result.now c.len.result c.slot_of-slot.ensures.value c.slot_of-slot.ensures.fits
    c.index.ensures c.in_default.ensures.items c.in_ok-push-2.ensures.items (omega (arith, c.len.ensures)) (c.self.invariant
    (omega (arith, w, length-set c.self.inside.last.items c.slot_of-slot.result c.len.result)))

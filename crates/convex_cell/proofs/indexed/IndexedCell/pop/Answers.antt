use Rattle.std.proofs.Common.{◌-◌, arith, ap, length}
use Rattle.std.proofs.lemmas.List.{length-set}
use Rattle.convex_cell.proofs.Chains.{cut_chained}
use Rattle.convex_cell.proofs.indexed.IndexedCell.pop.Goals as goal

pub invariant_of-self-2 : goal.invariant_of-self-2
invariant_of-self-2 c =
    λ w. cut_chained c.self.inside.halves.items c.truncate-3.new.self.items c.self.inside.before.items c.truncate-2.new.self.items
    c.self.inside.last.items c.index.result.now (c.len-i.result - 1) c.slot_of-slot.result c.index-2.result.now
    (omega (arith, c.len-i.ensures, c.requires, ap length c.self.view_is)) c.index.ensures c.slot_of-slot.ensures.value c.index-2.ensures
    c.truncate-3.ensures.items c.truncate-2.ensures.items (c.self.invariant
    (omega (arith, w, length-set c.self.inside.last.items c.slot_of-slot.result c.index-2.result.now)))

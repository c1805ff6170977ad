use Rattle.std.proofs.Common.{◌∙◌, arith}
use Rattle.std.proofs.lemmas.Bool.Decides.{nat_tests}
use Rattle.std.proofs.lemmas.List.{length-map}
use Rattle.convex_cell.specs.Indexed.{slot_of}
use Rattle.convex_cell.proofs.Chains.{last_read}
use Rattle.convex_cell.proofs.indexed.IndexedCell.has.Goals as goal

pub is_in_chain-requires : goal.is_in_chain-requires
is_in_chain-requires c =
    let hs = c.self.inside.halves.items in
    let long = length-map hs slot_of in
    let inv = c.self.invariant (grind (arith, nat_tests, c.is_empty.ensures, c.if-is_empty.false)) in
    rw (c.deref-2.ensures.value, c.deref-3.ensures.value) (record {
      long = inv.long ∙ long;
      before = λ i b. inv.before i (omega (arith, b, long));
      last = last_read hs c.self.inside.before.items c.self.inside.last.items c.args.half.now c.slot_of.result c.index-from.result.now
          c.slot_of.ensures.value c.slot_of.ensures.fits c.index-from.ensures inv;
    })

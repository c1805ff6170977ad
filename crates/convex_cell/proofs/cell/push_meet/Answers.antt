use Rattle.std.proofs.Common.{arith}
use Rattle.convex_cell.proofs.Flats.{met_if_ok, begins_behind}
use Rattle.convex_cell.proofs.cell.push_meet.Goals as goal

pub returns-clause-met : goal.returns-clause-met
returns-clause-met c = met_if_ok c.push_new.result c.args.halves.now.items c.push_new.new.halves.items c.args.first.now c.args.second.now
    c.extend_from_slice.new.self.items c.len-from.result (omega (arith, c.len-from.ensures)) c.in_ok-extend_from_slice.ensures.items
    c.push_new.ensures.met c.push_new.ensures.begins

pub returns-clause-begins : goal.returns-clause-begins
returns-clause-begins c = begins_behind c.args.halves.now.items c.push_new.new.halves.items c.args.first.now
    c.extend_from_slice.new.self.items c.in_ok-extend_from_slice.ensures.items c.push_new.ensures.begins

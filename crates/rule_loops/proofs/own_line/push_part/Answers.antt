use Rattle.std.proofs.Common.{◌++◌, ◌∙◌, ap, get_or, arith, drop}
use Rattle.topology_terms.specs.Cells as terms
use Rattle.rule_loops.specs.Blocks.{between}
use Rattle.rule_loops.proofs.Later.{part_more, part_done}
use Rattle.rule_loops.proofs.own_line.push_part.Goals as goal

pub loop-i-preserved : goal.loop-i-preserved
loop-i-preserved c =
    let ts = c.args.line.now in
    part_more c.args.off.now c.index-segments-i.result c.loop-i.i c.args.end ts (omega arith) (omega arith)
    (c.index-segments-i.is ∙ ap (λ us. get_or us c.loop-i.i c.index-segments-i.result) c.segments-segments.ensures)
    c.loop-i.cells c.push_crossings.new.cells
    (c.args.cells.now ++ terms.in_part c.args.off.now (between c.args.from c.args.end ts) (drop c.args.end ts))
    c.in_ok-push_crossings.ensures c.loop-i.invariant

pub returns : goal.returns
returns c =
    let ts = c.args.line.now in
    part_done c.args.off.now c.loop-i.i c.args.end ts (omega arith) c.loop-i.cells
    (c.args.cells.now ++ terms.in_part c.args.off.now (between c.args.from c.args.end ts) (drop c.args.end ts)) c.loop-i.invariant

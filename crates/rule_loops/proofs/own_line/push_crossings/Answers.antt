use Rattle.std.proofs.Common.{◌≡◌, List, ◌++◌, ◌∙◌, ap, subst, get_or, arith}
use Rattle.std.specs.Prelude.{OnOk}
use Rattle.plane_terms.specs.Cell.{Cell}
use Rattle.rule_loops.proofs.Later.{last_crossings, crossings_after}
use Rattle.rule_loops.proofs.own_line.push_crossings.Goals as goal

pub returns-then-from-end : goal.returns-then-from-end
returns-then-from-end c =
    subst (λ (cs : List Cell). OnOk c.push_later.result (c.push_later.new.cells ≡ c.args.cells.now ++ cs))
    (last_crossings c.args.off.now c.args.segment.now c.args.from c.args.end c.args.line.now (omega arith)) c.push_later.ensures

pub returns : goal.returns
returns c =
    crossings_after c.args.off.now c.args.segment.now c.index-segments-from.result c.args.from c.args.end c.args.line.now
    (omega arith) (omega arith)
    (c.index-segments-from.is ∙ ap (λ us. get_or us c.args.from c.index-segments-from.result) c.segments.ensures)
    c.args.cells.now c.push_with_next.new.cells c.push_later-2.new.cells c.push_later-2.result c.in_ok-push_with_next.ensures c.push_later-2.ensures

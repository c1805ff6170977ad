use Rattle.std.proofs.Common.{List, sym, subst}
use Rattle.plane_terms.specs.Point.{Place}
use Rattle.wkt_terms.specs.Grammar.{position}
use Rattle.wkt_laws.specs.Steps.{More}
use Rattle.wkt_laws.proofs.Passing.{more_none, more_one, more_lt}
use Rattle.wkt_text.proofs.positions.read_others.Goals as goal

pub loop-next-init : goal.loop-next-init
loop-next-init c = more_none c.args.positions.now.items c.args.text.now

pub loop-next-smaller : goal.loop-next-smaller
loop-next-smaller c = more_lt c.loop-next.rest.now c.in-Some.next.1.now (position c.in-Some.next.0) c.in-Some.ensures

pub loop-next-preserved : goal.loop-next-preserved
loop-next-preserved c =
    let old = c.args.positions.now.items in
    let text = c.args.text.now in
    let behind = c.in-Some.next.1.now in
    subst (λ (ps : List Place). More old ps text behind) (sym c.in_ok-push.ensures.items)
    (more_one old c.loop-next.positions.items c.in-Some.next.0 text c.loop-next.rest.now behind c.loop-next.invariant c.in-Some.ensures)

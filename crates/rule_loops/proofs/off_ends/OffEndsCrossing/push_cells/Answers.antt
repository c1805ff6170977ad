use Rattle.std.proofs.Common.{◌++◌, sym, ◌∙◌, ap, append-nil}
use Rattle.rule_loops.specs.Apart.{off_nothing}
use Rattle.rule_loops.proofs.off_ends.OffEndsCrossing.push_cells.Goals as goal

pub returns-in-Nothing : goal.returns-in-Nothing
returns-in-Nothing c = sym (append-nil c.args.cells.now) ∙ ap (λ cs. c.args.cells.now ++ cs)
    (sym (off_nothing c.args.self.now c.args.first.now c.args.second.now c.segment_law.ensures c.segment_law-2.ensures
    (c.shares.ensures.nothing.0 c.in-Nothing.is)))

pub off_places-requires : goal.off_places-requires
off_places-requires c = let o = c.shares.ensures.along.0 c.in-Along.is in (o.p, o.p_on_s, o.p_on_t)

pub push_point-requires : goal.push_point-requires
push_point-requires c = let o = c.shares.ensures.cross.0 c.in-Cross.is in o.meet

pub push_point-requires-in-Touch : goal.push_point-requires-in-Touch
push_point-requires-in-Touch c = let o = c.shares.ensures.touch.0 c.in-Touch.is in o.meet

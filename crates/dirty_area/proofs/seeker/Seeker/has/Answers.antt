use Rattle.std.proofs.Common.{sym, ◌∙◌}
use Rattle.dirty_area.specs.Indexed.{is_same}
use Rattle.dirty_area.proofs.Seekers.{at_place, at_none}
use Rattle.dirty_area.proofs.seeker.Seeker.has.Goals as goal

pub returns-in-Some-clause-value : goal.returns-in-Some-clause-value
returns-in-Some-clause-value c = rw (← c.self.view_is)
    (at_place (λ t. is_same t c.args.s.now) c.self.inside.rects.now c.in-Some.i c.args.s.now (sym c.place_in.ensures ∙ c.in-Some.is))

pub returns-in-None-clause-value : goal.returns-in-None-clause-value
returns-in-None-clause-value c = rw (← c.self.view_is)
    (at_none (λ t. is_same t c.args.s.now) c.self.inside.rects.now (sym c.place_in.ensures ∙ c.in-None.is))

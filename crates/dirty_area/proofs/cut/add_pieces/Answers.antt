use Rattle.sound_laws.proofs.Meetings.{meets_from_test}
use Rattle.dirty_area.proofs.cut.add_pieces.Goals as goal

pub returns-in-None-clause-dirt : goal.returns-in-None-clause-dirt
returns-in-None-clause-dirt c = absurd (c.in-None.ensures.value
    (meets_from_test c.args.r.now c.args.w.now c.corner_law.ensures.proper c.corner_law-2.ensures.proper c.requires.met))

pub returns-in-None-clause-round : goal.returns-in-None-clause-round
returns-in-None-clause-round c = absurd (c.in-None.ensures.value
    (meets_from_test c.args.r.now c.args.w.now c.corner_law.ensures.proper c.corner_law-2.ensures.proper c.requires.met))

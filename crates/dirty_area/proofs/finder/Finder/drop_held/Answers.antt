use Rattle.plane_terms.specs.Rectangle.{is_within}
use Rattle.dirty_area.specs.Indexed.{LosesSome, IsIndexed}
use Rattle.dirty_area.proofs.Indexes.{through, some_dropped}
use Rattle.dirty_area.proofs.finder.Finder.drop_held.Goals as goal

pub returns : goal.returns
returns c = λ xss l is h. through c.take.result c.without_held.result (IsIndexed xss)
    (LosesSome c.args.place c.args.rects.now (λ s. is_within s c.args.r.now)) _
    (λ ps qs indexed loses. some_dropped xss c.args.place c.args.rects.now (λ s. is_within s c.args.r.now) ps qs l is loses indexed)
    c.without_held.ensures.some c.without_held.ensures.none (rw (c.take.ensures.value, c.self.view_is) h)

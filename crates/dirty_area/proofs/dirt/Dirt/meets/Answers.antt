use Rattle.std.proofs.Common.{◌≡◌}
use Rattle.std.specs.List.{list_any}
use Rattle.plane_terms.specs.Rectangle.{rects_meet}
use Rattle.dirty_area.specs.Blocks.{all_rects}
use Rattle.dirty_area.proofs.Calls.{meets_dirt}
use Rattle.dirty_area.proofs.dirt.Dirt.meets.Goals as goal

pub returns-clause-meaning : goal.returns-clause-meaning
returns-clause-meaning c =
    let d = all_rects c.self.inside.blocks.items in
    let e : c.has.result ≡ list_any (λ s. rects_meet s c.args.r.now) d = rw c.deref.ensures.value at c.has.ensures in
    rw (← c.self.view_is) (meets_dirt d c.args.r.now c.has.result c.self.invariant.0.on_grid c.corner_law.ensures e)

use Rattle.grid_index.specs.Near.{Gains}
use Rattle.dirty_area.specs.Indexed.{IsIndexed, placed_at}
use Rattle.dirty_area.proofs.Indexes.{through, one_put}
use Rattle.dirty_area.proofs.finder.Finder.put.Goals as goal

pub returns : goal.returns
returns c = λ xss l h. through c.take.result c.with_one.result (IsIndexed xss)
    (λ ps qs. Gains ps qs (placed_at c.args.place c.args.r.now)) _
    (λ ps qs indexed gains. one_put xss c.args.place c.args.r.now ps qs l gains indexed)
    c.with_one.ensures.some c.with_one.ensures.none (rw (c.take.ensures.value, c.self.view_is) h)

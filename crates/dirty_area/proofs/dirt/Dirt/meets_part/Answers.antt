use Rattle.dirty_area.proofs.Calls.{meets_part_by}
use Rattle.dirty_area.proofs.dirt.Dirt.meets_part.Goals as goal

pub returns-in-Some : goal.returns-in-Some
returns-in-Some c = meets_part_by c.args.self.now c.args.window.now c.args.r.now c.in-Some.part c.meets.result
    c.in-Some.ensures.meaning.points c.meets.ensures.meaning

pub returns-in-None : goal.returns-in-None
returns-in-None c = ((λ e. cc), (λ k. absurd (c.in-None.ensures.value (k.0, k.2, k.3))))

use Rattle.std.proofs.lemmas.List.{take_all}
use Rattle.validation.proofs.Asking.{part_more, part_same}
use Rattle.validation.proofs.Dirtied.{parts_more, parts_same, grid_more}
use Rattle.validation.proofs.dirty.parts_of.Goals as goal
use Rattle.validation.proofs.dirty.parts_of.Goals.{in-Some+in_ok-push, in_default}

pub loop-r-preserved : goal.loop-r-preserved
loop-r-preserved c =
    let rs = c.args.rects.now in
    let window = c.args.window.now in
    let i = c.loop-r.r-index in
    let r = c.r-item.result in
    let before = c.loop-r.parts.items in
    let h = c.loop-r.invariant in
    elim c.match-part.branch [
      | in-Some+in_ok-push w ↦
          let s = w.in-Some.part in
          let after = w.push.new.self.items in
          rw w.parts-is (
            parts_more before after s rs window r i c.loop-r-test.true c.r-item.is w.in-Some.ensures.meaning.points
                w.in_ok-push.ensures.items h.0,
            grid_more before after s w.in_ok-push.ensures.items h.1 w.corner_law-in-Some.ensures,
            part_more rs window r s i before after c.loop-r-test.true c.r-item.is w.in-Some.ensures.value w.in_ok-push.ensures.items h.2,
          )
      | in_default w ↦ rw w.parts-is (
        parts_same before rs window r i c.loop-r-test.true c.r-item.is w.in_default.ensures.meaning h.0,
        h.1,
        part_same rs window r i before c.loop-r-test.true c.r-item.is c.corner_law-in-loop-r.ensures.proper c.corner_law.ensures.proper
            w.in_default.ensures.meaning h.2,
      )
    ]

pub returns-clause-covers : goal.returns-clause-covers
returns-clause-covers c = λ p. rw (take_all c.loop-r.r-index c.args.rects.now c.loop-r-test.false) at (c.loop-r.invariant.0 p)

pub returns-clause-parts : goal.returns-clause-parts
returns-clause-parts c = rw (take_all c.loop-r.r-index c.args.rects.now c.loop-r-test.false) at c.loop-r.invariant.2

use Rattle.std.proofs.Common.{arith, sym, ◌∙◌}
use Rattle.grid_index.proofs.Marked.{rising_more, below_more}
use Rattle.dirty_area.specs.Blocks.{runs}
use Rattle.dirty_area.proofs.Joins.{near_at, none_near_at, one_place, no_place, all_below, places_ended}
use Rattle.dirty_area.proofs.finder.places_of.Goals as goal
use Rattle.dirty_area.proofs.finder.places_of.Goals.{then-has+in_ok-push, else-has}

pub loop-place-preserved : goal.loop-place-preserved
loop-place-preserved c =
    let xss = runs c.args.blocks.now in
    let r = c.args.r.now in
    let i = c.loop-place.place in
    let v = c.loop-place.places.items in
    let was = c.loop-place.invariant in
    elim c.if-has.branch [
      | then-has+in_ok-push w ↦
          let near = near_at c.args.blocks.now i c.index-blocks-place.result r c.loop-place-test.true c.index-blocks-place.is
          (sym c.has.ensures ∙ w.if-has.true) in
          rw (w.places-is, w.in_ok-push.ensures.items) (rising_more v i was.0 was.1, below_more v i was.1, one_place xss r i v near was.2)
      | else-has w ↦
          let none = none_near_at c.args.blocks.now i c.index-blocks-place.result r c.loop-place-test.true c.index-blocks-place.is
          (sym c.has.ensures ∙ w.if-has.false) in
          rw w.places-is (was.0, all_below v i was.1, no_place xss r i v none was.2)
    ]

pub returns-clause-meet : goal.returns-clause-meet
returns-clause-meet c = places_ended c.args.blocks.now c.args.r.now c.loop-place.place c.loop-place.places.items (omega arith) c.loop-place.invariant.2

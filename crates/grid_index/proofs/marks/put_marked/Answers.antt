use Rattle.std.proofs.Common.{◌≡◌, ◌++◌, ◌∷◌, [], arith}
use Rattle.grid_index.proofs.Marked.{rising_more, below_more, marked_more, marked_same, marked_all}
use Rattle.grid_index.proofs.marks.put_marked.Goals.{then-marks-i+in_ok-push, else-marks-i}
use Rattle.grid_index.proofs.marks.put_marked.Goals as goal

pub loop-i-preserved : goal.loop-i-preserved
loop-i-preserved c = elim c.if-marks-i.branch [
  | then-marks-i+in_ok-push w ↦ let e : c.if-marks-i.found.items ≡ c.loop-i.found.items ++ c.loop-i.i ∷ [] = cc (w.in_ok-push.ensures.items) in rw e (record {
    rising = rising_more c.loop-i.found.items c.loop-i.i c.loop-i.invariant.rising c.loop-i.invariant.below;
    below = below_more c.loop-i.found.items c.loop-i.i c.loop-i.invariant.below;
    same = marked_more c.args.marks.now c.loop-i.found.items c.loop-i.i w.if-marks-i.true c.loop-i.invariant.same;
  })
  | else-marks-i w ↦ rw w.found-is (record {
    rising = c.loop-i.invariant.rising;
    below = λ k d l. let h = c.loop-i.invariant.below k d l in omega arith;
    same = marked_same c.args.marks.now c.loop-i.found.items c.loop-i.i w.if-marks-i.false c.loop-i.invariant.same;
  })
]

pub returns-clause-same : goal.returns-clause-same
returns-clause-same c = marked_all c.args.marks.now c.loop-i.found.items c.loop-i.i c.loop-i-test.false c.loop-i.invariant.same

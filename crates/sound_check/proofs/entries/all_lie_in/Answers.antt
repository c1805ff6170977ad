use Rattle.std.proofs.Common.{◌∙◌, sym}
use Rattle.std.proofs.lemmas.Bool.{false≢true}
use Rattle.sound_check.specs.Pairs.{LiesIn}
use Rattle.sound_check.proofs.Pairs.{every_more, every_there}
use Rattle.sound_check.proofs.entries.all_lie_in.Goals as goal

pub returns-then-not-branch : goal.returns-then-not-branch
returns-then-not-branch c = (
  λ k. absurd (false≢true k),
  λ h. sym c.if-not-branch.true ∙ c.in_ok-lies_in.ensures.1 (every_there (LiesIn c.args.dirt.now c.args.others.now) c.args.entries.now
      c.loop-i.i c.index-entries-i.result h c.loop-i-test.true c.index-entries-i.is),
)

pub loop-i-preserved : goal.loop-i-preserved
loop-i-preserved c = every_more (LiesIn c.args.dirt.now c.args.others.now) c.args.entries.now c.loop-i.i c.index-entries-i.result
    c.loop-i-test.true c.index-entries-i.is c.loop-i.invariant (c.in_ok-lies_in.ensures.0 c.if-not-branch.false)

use Rattle.std.proofs.Common.{arith, subst, not, ap, ◌∙◌}
use Rattle.std.proofs.lemmas.Bool.{not-true, not-false}
use Rattle.std.proofs.lemmas.List.{take_all}
use Rattle.plane_terms.specs.Rectangle.{Rectangle}
use Rattle.dirty_area.specs.Indexed.{LosesSome}
use Rattle.dirty_area.proofs.Indexes.{has_one, lost_none, lost_next}
use Rattle.dirty_area.proofs.finder.take_others.Goals as goal

pub loop-s-init : goal.loop-s-init
loop-s-init c = (c.new-seeker.ensures, lost_none c.args.place (λ s. not (has_one c.args.kept.now s)) c.args.index.now)

pub loop-s-preserved : goal.loop-s-preserved
loop-s-preserved c =
    let f = λ (s : Rectangle). not (has_one c.args.kept.now s) in
    let same = ap (λ xs. has_one xs c.s-item.result) c.loop-s.invariant.0 in (
      c.take_unless.ensures.same ∙ c.loop-s.invariant.0,
      lost_next c.args.place c.args.rects.now f c.loop-s.s-index c.s-item.result c.args.index.now c.loop-s.index c.take_unless.new.index
          c.loop-s-test.true c.s-item.is (λ e. c.take_unless.ensures.other (same ∙ not-true _ e))
          (λ e. c.take_unless.ensures.kept (same ∙ not-false _ e)) c.loop-s.invariant.1,
    )

pub returns : goal.returns
returns c = subst (λ xs. LosesSome c.args.place xs (λ s. not (has_one c.args.kept.now s)) c.args.index.now c.loop-s.index)
    (take_all c.loop-s.s-index c.args.rects.now (omega arith)) c.loop-s.invariant.1

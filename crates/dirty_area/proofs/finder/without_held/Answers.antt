use Rattle.std.proofs.Common.{arith, subst, sym, ◌∙◌}
use Rattle.std.proofs.lemmas.List.{take_all}
use Rattle.std.proofs.lemmas.Option.{same_Some}
use Rattle.plane_terms.specs.Rectangle.{is_within}
use Rattle.dirty_area.specs.Indexed.{LosesSome}
use Rattle.dirty_area.proofs.Indexes.{lost_none, lost_next}
use Rattle.dirty_area.proofs.finder.without_held.Goals as goal

pub loop-s-init : goal.loop-s-init
loop-s-init c = lost_none c.args.place (λ s. is_within s c.args.r.now) c.in_ok-index.index

pub loop-s-preserved : goal.loop-s-preserved
loop-s-preserved c = lost_next c.args.place c.args.rects.now (λ s. is_within s c.args.r.now) c.loop-s.s-index c.s-item.result c.in_ok-index.index
    c.loop-s.index c.take_held.new.index c.loop-s-test.true c.s-item.is c.take_held.ensures.held c.take_held.ensures.other c.loop-s.invariant

pub returns-clause-some : goal.returns-clause-some
returns-clause-some c = λ ps e.
    subst (λ os. LosesSome c.args.place c.args.rects.now (λ s. is_within s c.args.r.now) os c.loop-s.index)
    (same_Some c.in_ok-index.index ps (sym c.in_ok-index.was ∙ e))
    (subst (λ xs. LosesSome c.args.place xs (λ s. is_within s c.args.r.now) c.in_ok-index.index c.loop-s.index)
    (take_all c.loop-s.s-index c.args.rects.now (omega arith)) c.loop-s.invariant)

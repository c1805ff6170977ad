use Rattle.std.proofs.Common.{◌≡◌, refl, sym, ap, ◌∙◌, subst, drop, ◌+◌, ◌++◌}
use Rattle.plane_terms.specs.Lists.{Every}
use Rattle.plane_terms.specs.Dirt.{AreLoose}
use Rattle.dirty_area.specs.Blocks.{joined}
use Rattle.dirty_area.specs.Parts.{IsPartway}
use Rattle.dirty_area.proofs.Fronts.{front_same}
use Rattle.dirty_area.proofs.Joins.{joined_rest}
use Rattle.dirty_area.proofs.Runs.{met_apart}
use Rattle.dirty_area.proofs.Sweeps.{rect_cut, loose_front, next_rest}
use Rattle.dirty_area.proofs.cut.cut_block.Goals as goal

pub loop-i-init : goal.loop-i-init
loop-i-init c =
    let l = c.args.dirt.now in
    let whole : joined (drop l.next l.runs) ≡ c.args.rects.now ++ joined (drop (l.next + 1) l.runs) =
    joined_rest l.runs l.next c.requires.short ∙ ap (λ t. t ++ joined (drop (l.next + 1) l.runs)) (sym c.requires.rects) in
    (refl, refl, subst (λ t. IsPartway (joined l.runs) t c.args.w.now l.left c.args.met.now.items c.args.round.now) whole c.requires.partway)

pub cut_rect-requires-clause-split : goal.cut_rect-requires-clause-split
cut_rect-requires-clause-split c =
    let l = c.args.dirt.now in
    let i = c.loop-i.i in
    let x = c.index-rects-i.result in
    let rest = joined (drop (l.next + 1) l.runs) in
    let h = subst (λ t. IsPartway (joined l.runs) t c.args.w.now c.loop-i.dirt.left c.loop-i.met.items c.loop-i.round)
    (next_rest c.args.rects.now rest i x c.loop-i-test.true c.index-rects-i.is) c.loop-i.invariant.2 in
    λ e. met_apart (joined l.runs) (drop (i + 1) c.args.rects.now ++ rest) c.args.w.now c.loop-i.dirt.left c.loop-i.met.items c.loop-i.round x
    c.requires.dirt.loose e h

pub cut_rect-requires-clause-kept : goal.cut_rect-requires-clause-kept
cut_rect-requires-clause-kept c = c.loop-i.invariant.2.kept

pub cut_rect-requires-clause-front : goal.cut_rect-requires-clause-front
cut_rect-requires-clause-front c =
    let l = c.args.dirt.now in
    let same = front_same l c.loop-i.dirt c.loop-i.invariant.0 c.loop-i.invariant.1 in
    subst (λ t. Every (AreLoose c.index-rects-i.result) t) (sym same)
    (loose_front l.runs l.next c.loop-i.i c.args.rects.now c.index-rects-i.result c.requires.short c.requires.dirt c.requires.rects c.loop-i-test.true
    c.index-rects-i.is)

pub loop-i-preserved : goal.loop-i-preserved
loop-i-preserved c =
    let l = c.args.dirt.now in
    let i = c.loop-i.i in
    let x = c.index-rects-i.result in
    let rest = joined (drop (l.next + 1) l.runs) in
    let h = subst (λ t. IsPartway (joined l.runs) t c.args.w.now c.loop-i.dirt.left c.loop-i.met.items c.loop-i.round)
    (next_rest c.args.rects.now rest i x c.loop-i-test.true c.index-rects-i.is) c.loop-i.invariant.2 in (
      c.cut_rect.ensures.runs ∙ c.loop-i.invariant.0,
      c.cut_rect.ensures.next ∙ c.loop-i.invariant.1,
      rect_cut (joined l.runs) (drop (i + 1) c.args.rects.now ++ rest) c.args.w.now c.loop-i.dirt.left c.loop-i.met.items c.loop-i.round x
          c.cut_rect.new.dirt.left c.cut_rect.new.met.items c.cut_rect.new.round c.requires.dirt c.requires.window.proper
          c.in_ok-cut_rect.ensures.beside c.in_ok-cut_rect.ensures.met h,
    )

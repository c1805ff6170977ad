use Rattle.std.proofs.Common.{◌∙◌, sym, ap, arith}
use Rattle.std.specs.Prelude.{Some}
use Rattle.std.proofs.lemmas.Option.{slice_get-get_or}
use Rattle.plane_terms.specs.Rectangle.{RectHolds}
use Rattle.sound_check.proofs.Rests.{rest_whole, rest_next, rest_none, rest_all}
use Rattle.sound_check.proofs.rest.rest_off_rects.Goals as goal

pub loop-rect-init : goal.loop-rect-init
loop-rect-init c = rest_whole RectHolds c.args.cells c.requires

pub returns-then-len-eq0 : goal.returns-then-len-eq0
returns-then-len-eq0 c = rest_none RectHolds c.args.rects.now c.loop-rect.rect-index c.args.cells c.loop-rect.rest
    (sym c.len.ensures ∙ c.if-len-eq0.true) c.loop-rect.invariant

pub loop-rect-preserved : goal.loop-rect-preserved
loop-rect-preserved c =
    let s = c.rect-item.result in
    rest_next RectHolds c.args.rects.now c.loop-rect.rect-index s c.args.cells c.loop-rect.rest c.in_ok-rest.rest
    (slice_get-get_or c.args.rects.now c.loop-rect.rect-index s c.loop-rect-test.true ∙ ap Some (sym c.rect-item.is))
    c.loop-rect.invariant c.in_ok-rest.ensures

pub returns : goal.returns
returns c = rest_all RectHolds c.args.rects.now c.loop-rect.rect-index c.args.cells c.loop-rect.rest (omega arith) c.loop-rect.invariant

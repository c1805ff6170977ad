use Rattle.std.proofs.Common.{◌≡◌, false, length, drop, refl, sym}
use Rattle.std.proofs.lemmas.Option.{slice_get_read}
use Rattle.plane_terms.specs.Rectangle.{rects_meet}
use Rattle.plane_terms.specs.Segment.{box_of}
use Rattle.rule_loops.proofs.Clear.{off_round}
use Rattle.rule_loops.proofs.ahead.near_end.Goals as goal

pub returns-then-not-meets-clause-clear : goal.returns-then-not-meets-clause-clear
returns-then-not-meets-clause-clear c =
    let rs = c.args.ahead.now in
    let end = c.loop-end.end in
    let r = c.index-ahead-end.result in
    let far : rects_meet (box_of c.args.segment.now) r ≡ false = rw (c.env-own.ensures.value) at (sym c.if-not-meets.ensures.value) in
    off_round c.args.segment.now r (drop end c.args.segments.now)
    (c.requires.round end r (slice_get_read rs (length rs) end r refl c.loop-end-test.true c.index-ahead-end.is)) far

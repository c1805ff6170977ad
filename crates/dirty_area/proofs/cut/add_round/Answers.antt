use Rattle.std.proofs.lemmas.Result.{on_ok_weaker}
use Rattle.sound_laws.proofs.Meetings.{meets_test}
use Rattle.dirty_area.specs.Parts.{IsApart}
use Rattle.dirty_area.proofs.Calls.{pieces_added}
use Rattle.std.proofs.Common.{refl, ◌∙◌}
use Rattle.std.specs.Prelude.{int_lt}
use Rattle.plane_terms.specs.Rectangle.{rect_of}
use Rattle.dirty_area.specs.Cuts.{front}
use Rattle.dirty_area.proofs.Beside.{left_part, right_part}
use Rattle.dirty_area.proofs.Fronts.{piece_front, below_front, above_front, front_same}
use Rattle.dirty_area.proofs.Splits.{left_apart, right_apart, below_apart, above_apart, split_step, split_one}
use Rattle.dirty_area.proofs.cut.add_round.Goals as goal

pub add_piece-requires-clause-split : goal.add_piece-requires-clause-split
add_piece-requires-clause-split c =
    let met = meets_test c.args.r.now c.args.w.now c.requires.common.meet in
    split_one c.args.dirt.now.left c.args.round.now (IsApart c.args.r.now c.args.w.now) c.left.result c.requires.split
    (left_apart c.args.r.now c.args.w.now c.left.result c.corner_law.ensures.proper met c.left.ensures)

pub add_piece-requires-2-clause-split : goal.add_piece-requires-2-clause-split
add_piece-requires-2-clause-split c =
    let met = meets_test c.args.r.now c.args.w.now c.requires.common.meet in
    let s1 = split_step c.args.dirt.now.left c.add_piece.new.dirt.left c.args.round.now c.add_piece.new.round
    (IsApart c.args.r.now c.args.w.now) c.left.result c.requires.split
    (left_apart c.args.r.now c.args.w.now c.left.result c.corner_law.ensures.proper met c.left.ensures) c.in_ok-add_piece.ensures.dirt
    c.in_ok-add_piece.ensures.round in
    split_one c.add_piece.new.dirt.left c.add_piece.new.round (IsApart c.args.r.now c.args.w.now) c.right.result s1
    (right_apart c.args.r.now c.args.w.now c.right.result c.corner_law.ensures.proper met c.right.ensures)

pub add_piece-requires-3-clause-split : goal.add_piece-requires-3-clause-split
add_piece-requires-3-clause-split c =
    let met = meets_test c.args.r.now c.args.w.now c.requires.common.meet in
    let s1 = split_step c.args.dirt.now.left c.add_piece.new.dirt.left c.args.round.now c.add_piece.new.round
    (IsApart c.args.r.now c.args.w.now) c.left.result c.requires.split
    (left_apart c.args.r.now c.args.w.now c.left.result c.corner_law.ensures.proper met c.left.ensures) c.in_ok-add_piece.ensures.dirt
    c.in_ok-add_piece.ensures.round in
    let s2 = split_step c.add_piece.new.dirt.left c.add_piece-2.new.dirt.left c.add_piece.new.round c.add_piece-2.new.round
    (IsApart c.args.r.now c.args.w.now) c.right.result s1
    (right_apart c.args.r.now c.args.w.now c.right.result c.corner_law.ensures.proper met c.right.ensures) c.in_ok-add_piece-2.ensures.dirt
    c.in_ok-add_piece-2.ensures.round in
    split_one c.add_piece-2.new.dirt.left c.add_piece-2.new.round (IsApart c.args.r.now c.args.w.now) c.below.result s2
    (below_apart c.args.r.now c.args.w.now c.args.common.now c.below.result c.corner_law.ensures.proper met c.requires.common.part c.below.ensures)

pub add_piece-requires-4-clause-split : goal.add_piece-requires-4-clause-split
add_piece-requires-4-clause-split c =
    let met = meets_test c.args.r.now c.args.w.now c.requires.common.meet in
    let s1 = split_step c.args.dirt.now.left c.add_piece.new.dirt.left c.args.round.now c.add_piece.new.round
    (IsApart c.args.r.now c.args.w.now) c.left.result c.requires.split
    (left_apart c.args.r.now c.args.w.now c.left.result c.corner_law.ensures.proper met c.left.ensures) c.in_ok-add_piece.ensures.dirt
    c.in_ok-add_piece.ensures.round in
    let s2 = split_step c.add_piece.new.dirt.left c.add_piece-2.new.dirt.left c.add_piece.new.round c.add_piece-2.new.round
    (IsApart c.args.r.now c.args.w.now) c.right.result s1
    (right_apart c.args.r.now c.args.w.now c.right.result c.corner_law.ensures.proper met c.right.ensures) c.in_ok-add_piece-2.ensures.dirt
    c.in_ok-add_piece-2.ensures.round in
    let s3 = split_step c.add_piece-2.new.dirt.left c.add_piece-3.new.dirt.left c.add_piece-2.new.round c.add_piece-3.new.round
    (IsApart c.args.r.now c.args.w.now) c.below.result s2
    (below_apart c.args.r.now c.args.w.now c.args.common.now c.below.result c.corner_law.ensures.proper met c.requires.common.part c.below.ensures) c.in_ok-add_piece-3.ensures.dirt
    c.in_ok-add_piece-3.ensures.round in
    split_one c.add_piece-3.new.dirt.left c.add_piece-3.new.round (IsApart c.args.r.now c.args.w.now) c.above.result s3
    (above_apart c.args.r.now c.args.w.now c.args.common.now c.above.result c.corner_law.ensures.proper met c.requires.common.part c.above.ensures)

pub returns-clause-dirt : goal.returns-clause-dirt
returns-clause-dirt c = on_ok_weaker c.add_piece-4.result (λ e. pieces_added c.args.dirt.now.left _ _ _ _ c.args.r.now c.args.w.now
    c.args.common.now _ _ _ _ c.requires.common c.left.ensures c.right.ensures c.below.ensures c.above.ensures
    c.in_ok-add_piece.ensures.dirt c.in_ok-add_piece-2.ensures.dirt c.in_ok-add_piece-3.ensures.dirt e) c.add_piece-4.ensures.dirt

pub returns-clause-round : goal.returns-clause-round
returns-clause-round c = on_ok_weaker c.add_piece-4.result (λ e. pieces_added c.args.round.now _ _ _ _ c.args.r.now c.args.w.now
    c.args.common.now _ _ _ _ c.requires.common c.left.ensures c.right.ensures c.below.ensures c.above.ensures
    c.in_ok-add_piece.ensures.round c.in_ok-add_piece-2.ensures.round c.in_ok-add_piece-3.ensures.round e) c.add_piece-4.ensures.round

pub add_piece-requires-clause-front : goal.add_piece-requires-clause-front
add_piece-requires-clause-front c =
    let r = c.args.r.now in
    let w = c.args.w.now in
    let met = meets_test r w c.requires.common.meet in
    let d = front c.args.dirt.now in
    piece_front c.left.result (int_lt r.x0 w.x0) (rect_of r.x0 r.y0 w.x0 r.y1) r d d c.left.ensures
    (left_part r w c.corner_law.ensures.proper met).0 c.requires.front refl

pub add_piece-requires-2-clause-front : goal.add_piece-requires-2-clause-front
add_piece-requires-2-clause-front c =
    let r = c.args.r.now in
    let w = c.args.w.now in
    let met = meets_test r w c.requires.common.meet in
    let same = front_same c.args.dirt.now c.add_piece.new.dirt c.add_piece.ensures.runs c.add_piece.ensures.next in
    piece_front c.right.result (int_lt w.x1 r.x1) (rect_of w.x1 r.y0 r.x1 r.y1) r (front c.args.dirt.now) (front c.add_piece.new.dirt)
    c.right.ensures (right_part r w c.corner_law.ensures.proper met).0 c.requires.front same

pub add_piece-requires-3-clause-front : goal.add_piece-requires-3-clause-front
add_piece-requires-3-clause-front c =
    let r = c.args.r.now in
    let w = c.args.w.now in
    let met = meets_test r w c.requires.common.meet in
    let same = front_same c.add_piece.new.dirt c.add_piece-2.new.dirt c.add_piece-2.ensures.runs c.add_piece-2.ensures.next
    ∙ front_same c.args.dirt.now c.add_piece.new.dirt c.add_piece.ensures.runs c.add_piece.ensures.next in
    below_front r w c.args.common.now c.below.result (front c.args.dirt.now) (front c.add_piece-2.new.dirt) c.corner_law.ensures.proper met
    c.requires.common.part c.below.ensures c.requires.front same

pub add_piece-requires-4-clause-front : goal.add_piece-requires-4-clause-front
add_piece-requires-4-clause-front c =
    let r = c.args.r.now in
    let w = c.args.w.now in
    let met = meets_test r w c.requires.common.meet in
    let same = front_same c.add_piece-2.new.dirt c.add_piece-3.new.dirt c.add_piece-3.ensures.runs c.add_piece-3.ensures.next
    ∙ (front_same c.add_piece.new.dirt c.add_piece-2.new.dirt c.add_piece-2.ensures.runs c.add_piece-2.ensures.next
    ∙ front_same c.args.dirt.now c.add_piece.new.dirt c.add_piece.ensures.runs c.add_piece.ensures.next) in
    above_front r w c.args.common.now c.above.result (front c.args.dirt.now) (front c.add_piece-3.new.dirt) c.corner_law.ensures.proper met
    c.requires.common.part c.above.ensures c.requires.front same

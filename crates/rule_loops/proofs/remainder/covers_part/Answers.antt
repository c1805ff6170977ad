use Rattle.std.proofs.Common.{◌≡◌, true, [], refl, sym, subst, get_or, take, List}
use Rattle.std.proofs.lemmas.Bool.{OnTrue_at, OnTrue_from}
use Rattle.plane_terms.specs.Cell.{Cell}
use Rattle.convex_cell.specs.Piece.{IsMarkOf}
use Rattle.rule_loops.proofs.OpenPieces.{part_lasts}
use Rattle.rule_loops.proofs.Shut.{at_index, begins_within, restored}
use Rattle.rule_loops.proofs.remainder.covers_part.Goals as goal

pub is_covered-requires-clause-is_open : goal.is_covered-requires-clause-is_open
is_covered-requires-clause-is_open c =
    let ds : List Cell = c.args.outside.now in
    let d : Cell = get_or ds c.args.i [] in
    let at = at_index ds c.args.i c.requires.within in
    let made = (rw c.in-Some.is at (c.in_ok-mark.ensures.some)) d at in
    part_lasts c.args.near.now 0 ds c.args.i d c.args.piece.now c.narrow.new.self true true c.requires.off_walls c.requires.first at
    (rw (c.requires.off_wall) refl) c.requires.is_open made.points

pub widen-requires-clause-long : goal.widen-requires-clause-long
widen-requires-clause-long c =
    let ds : List Cell = c.args.outside.now in
    let made = (rw c.in-Some.is at (c.in_ok-mark.ensures.some)) (get_or ds c.args.i []) (at_index ds c.args.i c.requires.within) in
    let back : c.is_covered.new.piece ≡ c.narrow.new.self = c.in_ok-covered.ensures.same in
    rw (back, made.mark.long) (begins_within c.args.piece.now c.narrow.new.self made.begins)

pub widen-requires-clause-mark : goal.widen-requires-clause-mark
widen-requires-clause-mark c =
    let ds : List Cell = c.args.outside.now in
    let made = (rw c.in-Some.is at (c.in_ok-mark.ensures.some)) (get_or ds c.args.i []) (at_index ds c.args.i c.requires.within) in
    let back : c.is_covered.new.piece ≡ c.narrow.new.self = c.in_ok-covered.ensures.same in
    subst (IsMarkOf c.in-Some.mark) (sym (restored c.args.piece.now c.narrow.new.self c.is_covered.new.piece (take c.in-Some.mark.len c.is_covered.new.piece) c.in-Some.mark.len made.mark.long made.begins back refl)) made.mark

pub returns-clause-same : goal.returns-clause-same
returns-clause-same c =
    let ds : List Cell = c.args.outside.now in
    let made = (rw c.in-Some.is at (c.in_ok-mark.ensures.some)) (get_or ds c.args.i []) (at_index ds c.args.i c.requires.within) in
    restored c.args.piece.now c.narrow.new.self c.is_covered.new.piece c.widen.new.self c.in-Some.mark.len made.mark.long made.begins
    c.in_ok-covered.ensures.same c.widen.ensures

pub returns-clause-covered : goal.returns-clause-covered
returns-clause-covered c = OnTrue_from c.in_ok-covered.covered _ (λ t d at p m n.
    let made = (rw c.in-Some.is at (c.in_ok-mark.ensures.some)) d at in
    OnTrue_at t c.in_ok-covered.ensures.covered p ((made.points p).1 (m, n)))

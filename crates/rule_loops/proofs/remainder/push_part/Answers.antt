use Rattle.std.proofs.Common.{◌≡◌, ◌∙◌, ◌++◌, ◌∷◌, [], true, Some, List, refl, ap, sym, subst, get_or, take, drop}
use Rattle.std.specs.Prelude.{slice_get}
use Rattle.std.proofs.lemmas.Bool.{OnTrue_at}
use Rattle.plane_terms.specs.Cell.{Cell, meet_of}
use Rattle.topology_terms.specs.Cells.{uncovered}
use Rattle.convex_cell.specs.Piece.{IsMarkOf}
use Rattle.rule_loops.proofs.Depth.{part_without, part_with, same_met}
use Rattle.rule_loops.proofs.Shares.{point_shared}
use Rattle.rule_loops.proofs.Shut.{at_index, begins_within, restored}
use Rattle.rule_loops.proofs.remainder.push_part.Goals.{then-not-branch+in_ok-narrow+in_ok-push_left, else-not-branch}
use Rattle.rule_loops.proofs.remainder.push_part.Goals as goal

pub push_left-requires-clause-piece : goal.push_left-requires-clause-piece
push_left-requires-clause-piece c =
    let d : Cell = c.cell-part.result in
    let at = rw c.cells.ensures at c.cell-part.ensures in
    let made = (rw c.in-Some.is at (c.in_ok-mark.ensures.some)) d at in
    λ p. rw (c.in_ok-is_over.ensures.same, c.in_ok-narrow.ensures.ok)
    (same_met c.args.cell.now c.args.piece.now d c.narrow.new.self c.requires.piece made.points p)

pub widen-requires-clause-long : goal.widen-requires-clause-long
widen-requires-clause-long c =
    let ds : List Cell = c.args.outside.now in
    let made = (rw c.in-Some.is at (c.in_ok-mark.ensures.some)) (get_or ds c.args.i []) (at_index ds c.args.i c.requires.within) in
    let back : c.if-not-branch.piece ≡ c.narrow.new.self = elim c.if-not-branch.branch [
      | then-not-branch+in_ok-narrow+in_ok-push_left w ↦ w.piece-is ∙ (w.in_ok-push_left.ensures.piece ∙ c.in_ok-is_over.ensures.same)
      | else-not-branch w ↦ w.piece-is ∙ c.in_ok-is_over.ensures.same
    ] in
    rw (back, made.mark.long) (begins_within c.args.piece.now c.narrow.new.self made.begins)

pub widen-requires-clause-mark : goal.widen-requires-clause-mark
widen-requires-clause-mark c =
    let ds : List Cell = c.args.outside.now in
    let made = (rw c.in-Some.is at (c.in_ok-mark.ensures.some)) (get_or ds c.args.i []) (at_index ds c.args.i c.requires.within) in
    let back : c.if-not-branch.piece ≡ c.narrow.new.self = elim c.if-not-branch.branch [
      | then-not-branch+in_ok-narrow+in_ok-push_left w ↦ w.piece-is ∙ (w.in_ok-push_left.ensures.piece ∙ c.in_ok-is_over.ensures.same)
      | else-not-branch w ↦ w.piece-is ∙ c.in_ok-is_over.ensures.same
    ] in
    subst (IsMarkOf c.in-Some.mark) (sym (restored c.args.piece.now c.narrow.new.self c.if-not-branch.piece (take c.in-Some.mark.len c.if-not-branch.piece) c.in-Some.mark.len made.mark.long made.begins back refl)) made.mark

pub returns-clause-piece : goal.returns-clause-piece
returns-clause-piece c =
    let ds : List Cell = c.args.outside.now in
    let made = (rw c.in-Some.is at (c.in_ok-mark.ensures.some)) (get_or ds c.args.i []) (at_index ds c.args.i c.requires.within) in
    let back : c.if-not-branch.piece ≡ c.narrow.new.self = elim c.if-not-branch.branch [
      | then-not-branch+in_ok-narrow+in_ok-push_left w ↦ w.piece-is ∙ (w.in_ok-push_left.ensures.piece ∙ c.in_ok-is_over.ensures.same)
      | else-not-branch w ↦ w.piece-is ∙ c.in_ok-is_over.ensures.same
    ] in
    restored c.args.piece.now c.narrow.new.self c.if-not-branch.piece c.widen.new.self c.in-Some.mark.len made.mark.long made.begins back c.widen.ensures

pub returns-clause-cell : goal.returns-clause-cell
returns-clause-cell c = elim c.if-not-branch.branch [
  | then-not-branch+in_ok-narrow+in_ok-push_left w ↦ w.cell-is ∙ (w.truncate.ensures
      ∙ (ap (take c.len-len.result) w.in_ok-push_left.ensures.cell
      ∙ (ap (λ n. take n w.narrow-then-not-branch.new.self) c.len-len.ensures ∙ w.in_ok-narrow.ensures.begins)))
  | else-not-branch w ↦ w.cell-is
]

pub returns-clause-left : goal.returns-clause-left
returns-clause-left c =
    let ds : List Cell = c.args.outside.now in
    let own : Cell = c.args.cell.now in
    let rest = drop 1 c.args.near.now in
    let i = c.args.i in
    let d : Cell = get_or ds i [] in
    let here = at_index ds i c.requires.within in
    let made = (rw c.in-Some.is at (c.in_ok-mark.ensures.some)) d here in
    let part : Cell = c.cell-part.result in
    let at : slice_get ds i ≡ Some part = rw c.cells.ensures at c.cell-part.ensures in
    let same : part ≡ d = cc in
    elim c.if-not-branch.branch [
      | then-not-branch+in_ok-narrow+in_ok-push_left w ↦
          part_with own d rest c.args.left.now c.if-not-branch.left
          (point_shared own c.args.piece.now d c.narrow.new.self c.requires.piece made.points made.some)
          (w.left-is ∙ (w.in_ok-push_left.ensures.left ∙ ap (λ (x : Cell). c.args.left.now ++ uncovered (x ∷ []) rest)
          (w.in_ok-narrow.ensures.ok ∙ ap (meet_of own) same)))
      | else-not-branch w ↦
          let t : c.in_ok-is_over.field-0 ≡ true = w.if-not-branch.false in
          rw (w.left-is) (part_without own d rest c.args.left.now
          (λ p m n. OnTrue_at t c.in_ok-is_over.ensures.covered p ((made.points p).1 ((c.requires.piece p).1 m, n))))
    ]

pub returns-in_default-clause-left : goal.returns-in_default-clause-left
returns-in_default-clause-left c =
    let d : Cell = get_or c.args.outside.now c.args.i [] in
    part_without c.args.cell.now d (drop 1 c.args.near.now) c.args.left.now (λ p m n. absurd ((rw c.in_default.is at (c.in_ok-mark.ensures.clear)) d
    (at_index c.args.outside.now c.args.i c.requires.within) p ((c.requires.piece p).1 m) n))

use Rattle.std.proofs.Common.{◌≡◌, ◌↔◌, ◌∙◌, ◌<◌, ◌+◌, ◌++◌, ◌∷◌, [], ℕ, inl, inr, true, Some, arith, rules, refl, ap, sym, subst, length, get_or, take, drop, List, append-nil}
use Rattle.std.specs.Bool.{OnTrue}
use Rattle.std.specs.Prelude.{slice_get}
use Rattle.std.proofs.lemmas.Bool.{OnTrue_at, cases_lt}
use Rattle.std.proofs.lemmas.Option.{slice_get_read}
use Rattle.plane_terms.specs.Point.{Point}
use Rattle.plane_terms.specs.Cell.{Cell, InCell, meet_of}
use Rattle.topology_terms.specs.Cells.{uncovered}
use Rattle.convex_cell.specs.Piece.{IsMarkOf}
use Rattle.rule_loops.proofs.Depth.{none_yet, left_passed, all_of_it, one_with, one_without, same_met}
use Rattle.rule_loops.specs.Rightward.{LastsRight}
use Rattle.rule_loops.proofs.Rest.{drop_one}
use Rattle.rule_loops.proofs.OpenPieces.{part_lasts}
use Rattle.rule_loops.proofs.Shares.{point_shared}
use Rattle.rule_loops.proofs.Shut.{at_index, begins_within, restored}
use Rattle.rule_loops.proofs.remainder.+push_left.Goals.{After-stays_open-part_open, then-not-branch+in_ok-narrow+in_ok-push_left, else-not-branch}
use Rattle.rule_loops.proofs.remainder.+push_left.Goals as goal

pub loop-i-init : goal.loop-i-init
loop-i-init t c = record {
  left = sym (ap (λ us. c.args.left.now ++ us) (none_yet c.args.cell.now c.deref-outside.result.now (drop (c.args.from + 1) c.args.near.now)
      c.window-window.result.first (λ k d e l p m. c.window-window.ensures.clear k d e (inl l) p ((c.requires.piece p).1 m)))
      ∙ append-nil c.args.left.now);
  cell = refl;
  piece = refl;
}

pub loop-i-preserved-in_default-2 : goal.loop-i-preserved-in_default-2
loop-i-preserved-in_default-2 t c =
    let ds : List Cell = c.deref-outside.result.now in
    let i = c.in-Some-next_near.i in
    let inv = c.loop-i.invariant in
    let own : Cell = c.args.cell.now in
    let within : i < length ds = omega (arith, c.in-Some-next_near.ensures.before, c.window-window.ensures.fits) in
    let at = at_index ds i within in
    let same : (p : Point) → InCell c.loop-i.piece p ↔ InCell own p = rw (inv.piece) c.requires.piece in
    let rest = drop (c.args.from + 1) c.args.near.now in
    let next = c.in-Some-next_near.ensures in
    let left = inv.left ∙ ap (λ us. c.args.left.now ++ us) (left_passed own ds rest c.loop-i.next i next.from
    (λ k d e a b p m. next.clear k d e a b p ((same p).1 m))) in
    record {
      left = one_without own ds rest i (get_or ds i []) c.args.left.now c.loop-i.left at
          (λ p m n k. (rw c.in_default-2.is at (c.in_ok-mark.ensures.clear)) (get_or ds i []) at p ((same p).1 m) n) left;
      cell = inv.cell;
      piece = (rw c.in_default-2.is at (c.in_ok-mark.ensures.none)) ∙ inv.piece;
    }

still_open : (t : ℕ) (c : After-stays_open-part_open t) → OnTrue c.stays_open-part_open.result (LastsRight (InCell c.narrow.new.self))
still_open t c =
    let ds : List Cell = c.deref-outside.result.now in
    let near = c.args.near.now in
    let d : Cell = c.cell-part.result in
    let same : c.in-Some.nearby.now ≡ ds = sym (c.deref-outside.ensures ∙ c.nearby.view_is) in
    let read : slice_get near c.args.from ≡ Some ds =
    slice_get_read near (length near) c.args.from ds refl c.in-Some.ensures.lookup.3.0 (rw same at c.in-Some.ensures.lookup.1) in
    let at : slice_get ds c.in-Some-next_near.i ≡ Some d = rw c.cells.ensures at c.cell-part.ensures in
    let made = (rw c.in-Some-2.is at (c.in_ok-mark.ensures.some)) d at in
    part_lasts near c.args.from ds c.in-Some-next_near.i d c.loop-i.piece c.narrow.new.self c.args.is_open c.stays_open-part_open.result
    c.requires.off_walls read at c.stays_open-part_open.ensures (rw (c.loop-i.invariant.piece) c.requires.is_open) made.points

pub is_over-requires : goal.is_over-requires
is_over-requires t c = record {
  off_walls = c.requires.off_walls;
  is_open = still_open t (goal.at.is_over-requires t c).After-stays_open-part_open;
}

pub push_left-requires : goal.push_left-requires
push_left-requires t c =
    let inv = c.loop-i.invariant in
    let d : Cell = c.cell-part.result in
    let at = rw c.cells.ensures at c.cell-part.ensures in
    let made = (rw c.in-Some-2.is at (c.in_ok-mark.ensures.some)) d at in
    let same : (p : Point) → InCell c.loop-i.piece p ↔ InCell c.loop-i.cell p = rw (inv.piece, inv.cell) c.requires.piece in
    let within : c.args.from < length c.args.near.now = c.in-Some.ensures.lookup.3.0 in (
      search rules,
      (
        λ p. rw (c.in_ok-is_over.ensures.same, c.in_ok-narrow.ensures.ok)
            (same_met c.loop-i.cell c.loop-i.piece d c.narrow.new.self same made.points p),
        (
          c.requires.off_walls,
          rw (c.in_ok-is_over.ensures.same) (still_open t (goal.at.push_left-requires t c).After-stays_open-part_open),
        ),
      ),
    )

pub widen-requires-clause-long : goal.widen-requires-clause-long
widen-requires-clause-long t c =
    let ds : List Cell = c.deref-outside.result.now in
    let within : c.in-Some-next_near.i < length ds = omega (arith, c.in-Some-next_near.ensures.before, c.window-window.ensures.fits) in
    let made = (rw c.in-Some-2.is at (c.in_ok-mark.ensures.some)) (get_or ds c.in-Some-next_near.i []) (at_index ds c.in-Some-next_near.i within) in
    let back : c.if-not-branch.piece ≡ c.narrow.new.self = elim c.if-not-branch.branch [
      | then-not-branch+in_ok-narrow+in_ok-push_left w ↦ w.piece-is ∙ (w.in_ok-push_left.ensures.piece ∙ c.in_ok-is_over.ensures.same)
      | else-not-branch w ↦ w.piece-is ∙ c.in_ok-is_over.ensures.same
    ] in
    rw (back, made.mark.long) (begins_within c.loop-i.piece c.narrow.new.self made.begins)

pub widen-requires-clause-mark : goal.widen-requires-clause-mark
widen-requires-clause-mark t c =
    let ds : List Cell = c.deref-outside.result.now in
    let within : c.in-Some-next_near.i < length ds = omega (arith, c.in-Some-next_near.ensures.before, c.window-window.ensures.fits) in
    let made = (rw c.in-Some-2.is at (c.in_ok-mark.ensures.some)) (get_or ds c.in-Some-next_near.i []) (at_index ds c.in-Some-next_near.i within) in
    let back : c.if-not-branch.piece ≡ c.narrow.new.self = elim c.if-not-branch.branch [
      | then-not-branch+in_ok-narrow+in_ok-push_left w ↦ w.piece-is ∙ (w.in_ok-push_left.ensures.piece ∙ c.in_ok-is_over.ensures.same)
      | else-not-branch w ↦ w.piece-is ∙ c.in_ok-is_over.ensures.same
    ] in
    subst (IsMarkOf c.in-Some-2.mark) (sym (restored c.loop-i.piece c.narrow.new.self c.if-not-branch.piece (take c.in-Some-2.mark.len c.if-not-branch.piece) c.in-Some-2.mark.len made.mark.long made.begins back refl)) made.mark

pub loop-i-preserved : goal.loop-i-preserved
loop-i-preserved t c =
    let ds : List Cell = c.deref-outside.result.now in
    let own : Cell = c.args.cell.now in
    let rest = drop (c.args.from + 1) c.args.near.now in
    let i = c.in-Some-next_near.i in
    let inv = c.loop-i.invariant in
    let within : i < length ds = omega (arith, c.in-Some-next_near.ensures.before, c.window-window.ensures.fits) in
    let narrowed = rw c.in-Some-2.is at (c.in_ok-mark.ensures.some) in
    let here = at_index ds i within in
    let made = narrowed (get_or ds i []) here in
    let same : (p : Point) → InCell c.loop-i.piece p ↔ InCell own p = rw (inv.piece) c.requires.piece in
    let next = c.in-Some-next_near.ensures in
    let left = inv.left ∙ ap (λ us. c.args.left.now ++ us) (left_passed own ds rest c.loop-i.next i next.from
    (λ k d e a b p m. next.clear k d e a b p ((same p).1 m))) in
    let back : c.if-not-branch.piece ≡ c.narrow.new.self = elim c.if-not-branch.branch [
      | then-not-branch+in_ok-narrow+in_ok-push_left w ↦ w.piece-is ∙ (w.in_ok-push_left.ensures.piece ∙ c.in_ok-is_over.ensures.same)
      | else-not-branch w ↦ w.piece-is ∙ c.in_ok-is_over.ensures.same
    ] in
    record {
      left = elim c.if-not-branch.branch [
        | then-not-branch+in_ok-narrow+in_ok-push_left w ↦
            let d : Cell = c.cell-part.result in
            let at : slice_get ds i ≡ Some d = rw c.cells.ensures at c.cell-part.ensures in
            let met = narrowed d at in
            one_with own ds rest i d c.args.left.now c.loop-i.left c.if-not-branch.left at
            (point_shared own c.loop-i.piece d c.narrow.new.self same met.points met.some)
            (w.left-is ∙ (w.in_ok-push_left.ensures.left ∙ ap (λ (x : Cell). c.loop-i.left ++ uncovered (x ∷ []) rest)
            (w.in_ok-narrow.ensures.ok ∙ ap (λ (x : Cell). meet_of x d) inv.cell)))
            left
        | else-not-branch w ↦
            let t : c.in_ok-is_over.field-0 ≡ true = w.if-not-branch.false in
            rw (w.left-is) (one_without own ds rest i (get_or ds i []) c.args.left.now c.loop-i.left here
            (λ p m n. OnTrue_at t c.in_ok-is_over.ensures.covered p ((made.points p).1 ((same p).1 m, n))) left)
      ];
      cell = elim c.if-not-branch.branch [
        | then-not-branch+in_ok-narrow+in_ok-push_left w ↦ w.cell-is ∙ (w.truncate.ensures
            ∙ (ap (take c.len-len.result) w.in_ok-push_left.ensures.cell
            ∙ (ap (λ n. take n w.narrow-then-not-branch.new.self) (c.len-len.ensures ∙ ap length (sym inv.cell))
            ∙ (w.in_ok-narrow.ensures.begins ∙ inv.cell))))
        | else-not-branch w ↦ w.cell-is ∙ inv.cell
      ];
      piece = restored c.loop-i.piece c.narrow.new.self c.if-not-branch.piece c.widen.new.self c.in-Some-2.mark.len made.mark.long made.begins
          back c.widen.ensures
          ∙ inv.piece;
    }

pub returns-clause-left : goal.returns-clause-left
returns-clause-left t c =
    let ds : List Cell = c.deref-outside.result.now in
    let own : Cell = c.args.cell.now in
    let near = c.args.near.now in
    let same : c.in-Some.nearby.now ≡ ds = sym (c.deref-outside.ensures ∙ c.nearby.view_is) in
    let read : slice_get near c.args.from ≡ Some ds =
    slice_get_read near (length near) c.args.from ds refl c.in-Some.ensures.lookup.3.0 (rw same at c.in-Some.ensures.lookup.1) in
    let inv = c.loop-i.invariant in
    inv.left ∙ ap (λ us. c.args.left.now ++ us) (all_of_it own ds (drop (c.args.from + 1) near) c.loop-i.next
    (λ k d e l p m. elim (cases_lt k c.window-window.result.last) [
      | inl b ↦ c.in_default-next_near.ensures.none k d e l b p (rw (inv.piece) ((c.requires.piece p).1 m))
      | inr a ↦ c.window-window.ensures.clear k d e (inr a) p ((c.requires.piece p).1 m)
    ])
    ∙ ap (uncovered (own ∷ [])) (sym (drop_one near c.args.from ds read)))

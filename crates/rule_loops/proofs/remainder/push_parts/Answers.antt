use Rattle.std.proofs.Common.{◌≡◌, ◌↔◌, ◌∙◌, ◌<◌, ◌++◌, ◌∷◌, [], inl, inr, true, false, List, arith, rules, refl, ap, sym, length, get_or, drop, append-nil}
use Rattle.std.proofs.lemmas.Bool.{cases_lt}
use Rattle.plane_terms.specs.Point.{Point}
use Rattle.plane_terms.specs.Cell.{Cell, InCell}
use Rattle.topology_terms.specs.Cells.{uncovered}
use Rattle.rule_loops.proofs.Depth.{none_yet, left_passed, all_of_it, one_more, one_without}
use Rattle.rule_loops.proofs.Rest.{drop_one}
use Rattle.rule_loops.proofs.Shut.{at_index}
use Rattle.rule_loops.specs.Open.{left_of_part}
use Rattle.rule_loops.proofs.remainder.push_parts.Goals as goal

pub loop-i-init : goal.loop-i-init
loop-i-init c = record {
  left = sym (ap (λ us. c.args.left.now ++ us) (none_yet c.args.cell.now c.args.outside.now (drop 1 c.args.near.now)
      c.window-window.result.first (λ k d e l p m. c.window-window.ensures.clear k d e (inl l) p ((c.requires.piece p).1 m)))
      ∙ append-nil c.args.left.now);
  cell = refl;
  piece = refl;
}

pub push_part-requires-clause-piece : goal.push_part-requires-clause-piece
push_part-requires-clause-piece c = rw (c.loop-i.invariant.piece, c.loop-i.invariant.cell) c.requires.piece

pub loop-i-preserved-in-Continue-1 : goal.loop-i-preserved-in-Continue-1
loop-i-preserved-in-Continue-1 c =
    let ds : List Cell = c.args.outside.now in
    let own : Cell = c.args.cell.now in
    let rest = drop 1 c.args.near.now in
    let i = c.in-Some.i in
    let d : Cell = get_or ds i [] in
    let inv = c.loop-i.invariant in
    let within : i < length ds = omega (arith, c.in-Some.ensures.before, c.window-window.ensures.fits) in
    let same : (p : Point) → InCell c.loop-i.piece p ↔ InCell own p = rw (inv.piece) c.requires.piece in
    let next = c.in-Some.ensures in
    let left = inv.left ∙ ap (λ us. c.args.left.now ++ us) (left_passed own ds rest c.loop-i.next i next.from
    (λ k d e a b p m. next.clear k d e a b p ((same p).1 m))) in
    record {
      left = one_more own ds rest i d c.args.left.now c.loop-i.left c.push_part.new.left (at_index ds i within)
          (c.in_ok-push_part.ensures.left ∙ ap (λ (x : Cell). c.loop-i.left ++ left_of_part x rest d) inv.cell) left;
      cell = c.in_ok-push_part.ensures.cell ∙ inv.cell;
      piece = c.in_ok-push_part.ensures.piece ∙ inv.piece;
    }

pub loop-i-preserved : goal.loop-i-preserved
loop-i-preserved c =
    let ds : List Cell = c.args.outside.now in
    let own : Cell = c.args.cell.now in
    let rest = drop 1 c.args.near.now in
    let i = c.in-Some.i in
    let d : Cell = get_or ds i [] in
    let inv = c.loop-i.invariant in
    let within : i < length ds = omega (arith, c.in-Some.ensures.before, c.window-window.ensures.fits) in
    let here = at_index ds i within in
    let same : (p : Point) → InCell c.loop-i.piece p ↔ InCell own p = rw (inv.piece) c.requires.piece in
    let next = c.in-Some.ensures in
    let left = inv.left ∙ ap (λ us. c.args.left.now ++ us) (left_passed own ds rest c.loop-i.next i next.from
    (λ k d e a b p m. next.clear k d e a b p ((same p).1 m))) in
    let is_set : get_or c.args.covered.now i false ≡ true = search rules in
    record {
      left = one_without own ds rest i d c.args.left.now c.loop-i.left here
          (λ p m n. c.requires.covered i is_set d here p ((c.requires.piece p).1 m) n) left;
      cell = inv.cell;
      piece = inv.piece;
    }

pub returns : goal.returns
returns c =
    let ds : List Cell = c.args.outside.now in
    let own : Cell = c.args.cell.now in
    let near = c.args.near.now in
    let inv = c.loop-i.invariant in
    inv.left ∙ ap (λ us. c.args.left.now ++ us) (all_of_it own ds (drop 1 near) c.loop-i.next
    (λ k d e l p m. elim (cases_lt k c.window-window.result.last) [
      | inl b ↦ c.in_default.ensures.none k d e l b p (rw (inv.piece) ((c.requires.piece p).1 m))
      | inr a ↦ c.window-window.ensures.clear k d e (inr a) p ((c.requires.piece p).1 m)
    ])
    ∙ ap (uncovered (own ∷ [])) (sym (drop_one near 0 ds c.requires.first)))

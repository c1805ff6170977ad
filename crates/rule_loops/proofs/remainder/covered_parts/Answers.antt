use Rattle.std.proofs.Common.{◌≡◌, ◌∙◌, inl, inr, true, false, Some, List, [], arith, refl, ap, sym, subst, length, drop}
use Rattle.std.specs.Prelude.{slice_get}
use Rattle.std.proofs.lemmas.Bool.{OnTrue_at, cases_lt}
use Rattle.std.proofs.lemmas.List.{length-replicate}
use Rattle.std.proofs.lemmas.Option.{get_or_from_slice_get}
use Rattle.plane_terms.specs.Cell.{Cell, InCell}
use Rattle.plane_terms.proofs.ListLemmas.{every_got}
use Rattle.rule_loops.specs.Rightward.{AreOffWalls}
use Rattle.rule_loops.proofs.Marks.{unmarked, all_more}
use Rattle.rule_loops.proofs.OpenPieces.{shut_by, passed_wall}
use Rattle.rule_loops.proofs.Shut.{in_one}
use Rattle.rule_loops.proofs.remainder.covered_parts.Goals as goal

pub loop-i-init : goal.loop-i-init
loop-i-init c = record {
  same = refl;
  long = ap length c.in_ok-marks.ensures ∙ (length-replicate c.len.result false ∙ c.len.ensures);
  each = unmarked (drop 1 c.args.near.now) c.args.piece.now c.args.outside.now c.in_ok-marks.marks.items c.len.result c.in_ok-marks.ensures;
  all = λ j d l e n p m i. absurd (c.window-window.ensures.clear j d e (inl l) p m i);
}

pub loop-i-preserved-then-is_wall : goal.loop-i-preserved-then-is_wall
loop-i-preserved-then-is_wall c =
    let ds : List Cell = c.args.outside.now in
    let i = c.in-Some.i in
    let inv = c.loop-i.invariant in
    record {
      same = inv.same;
      long = inv.long;
      each = inv.each;
      all = all_more c.loop-i.is_all c.args.near.now c.args.piece.now c.loop-i.piece ds c.loop-i.next i inv.same inv.all c.in-Some.ensures.clear
          (λ d e n. absurd (passed_wall true c.is_wall.result ds i c.cell.result d (rw c.cells.ensures at c.cell.ensures) e refl c.if-is_wall.true
          c.is_wall.ensures n));
    }

pub covers_part-requires-clause-off_wall : goal.covers_part-requires-clause-off_wall
covers_part-requires-clause-off_wall c =
    let ds : List Cell = c.args.outside.now in
    let at : slice_get ds c.in-Some.i ≡ Some c.cell.result = rw c.cells.ensures at c.cell.ensures in
    rw (get_or_from_slice_get ds c.in-Some.i c.cell.result [] at) (sym c.is_wall.ensures ∙ c.if-is_wall.false)

pub covers_part-requires-clause-is_open : goal.covers_part-requires-clause-is_open
covers_part-requires-clause-is_open c = rw (c.loop-i.invariant.same) c.requires.is_open

pub returns-then-is_all-clause-all : goal.returns-then-is_all-clause-all
returns-then-is_all-clause-all c =
    let near = c.args.near.now in
    let ds : List Cell = c.args.outside.now in
    let inv = c.loop-i.invariant in
    shut_by near c.args.piece.now ds c.loop-i.next
    (λ p h. in_one near 0 0 ds (omega arith) c.requires.first p h)
    (λ j d e a p m. elim (cases_lt j c.window-window.result.last) [
      | inl b ↦ c.in_default.ensures.none j d e a b p (subst (λ (hs : Cell). InCell hs p) (sym inv.same) m)
      | inr l ↦ c.window-window.ensures.clear j d e (inr l) p m
    ]) true (every_got AreOffWalls near 0 ds c.requires.off_walls c.requires.first) c.requires.is_open c.requires.off_walls
    (OnTrue_at c.if-is_all.true inv.all)

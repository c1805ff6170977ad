use Rattle.std.proofs.Common.{◌≡◌, ◌∙◌, [], ◌∷◌, ap, subst, sym, arith}
use Rattle.plane_terms.specs.Cell.{InCells}
use Rattle.sound_check.specs.Rest.{IsRest}
use Rattle.sound_check.proofs.Carvings.{carved_first, carved_next, carved_none, carved_found, carved_nothing}
use Rattle.sound_check.proofs.off.is_off_by_carving.Goals as goal

pub loop-i-init : goal.loop-i-init
loop-i-init c =
    let e : c.in_ok-whole.whole ≡ c.args.piece.now ∷ [] = c.in_ok-whole.ensures ∙ ap (λ h. h ∷ []) c.halves.ensures in
    record {
      start = omega arith;
      rest = carved_first c.args.others.now c.args.from c.args.piece.now c.in_ok-rest.rest
          (subst (λ cs. IsRest (InCells ([] ∷ [])) cs c.in_ok-rest.rest) e c.in_ok-rest.ensures);
    }

pub returns-then-len-eq0-clause-none : goal.returns-then-len-eq0-clause-none
returns-then-len-eq0-clause-none c = carved_none c.args.others.now c.args.from c.loop-i.i c.args.piece.now c.loop-i.rest c.loop-i.invariant.rest
    (sym c.len.ensures ∙ c.if-len-eq0.true)

pub loop-i-preserved : goal.loop-i-preserved
loop-i-preserved c = record {
  start = omega (arith, c.loop-i.invariant.start);
  rest = carved_next c.args.others.now c.args.from c.loop-i.i c.cell.result (c.args.piece.now ∷ []) c.loop-i.rest c.in_ok-rest-2.rest c.cell.ensures
      c.loop-i.invariant.start c.loop-i.invariant.rest c.in_ok-rest-2.ensures;
}

pub returns-clause-found : goal.returns-clause-found
returns-clause-found c = carved_found c.args.others.now c.args.from c.loop-i.i c.args.piece.now c.loop-i.rest c.len-2.result
    (omega (arith, c.loop-i-test.false, c.len-i-end.ensures)) c.loop-i.invariant.rest c.len-2.ensures

pub returns-clause-none : goal.returns-clause-none
returns-clause-none c = carved_nothing c.args.others.now c.args.from c.loop-i.i c.args.piece.now c.loop-i.rest c.len-2.result c.loop-i.invariant.rest
    c.len-2.ensures

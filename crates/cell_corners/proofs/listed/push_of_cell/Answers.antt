use Rattle.std.proofs.Common.{inl, inr, refl, sym, subst, append-nil, [], ◌≡◌, ◌++◌, List}
use Rattle.plane_terms.specs.Lists.{Every, Paired}
use Rattle.corner_terms.specs.CornerLists.{AreOfCell}
use Rattle.corner_terms.specs.declared.cell_corner.CellCorner.{CellCorner}
use Rattle.cell_corners.specs.Listed.{IsFit}
use Rattle.cell_corners.specs.Fractions.{IsToldAs}
use Rattle.cell_corners.proofs.Ascents.{on_ok}
use Rattle.cell_corners.proofs.Told.{told_of}
use Rattle.cell_corners.proofs.listed.push_of_cell.Goals as goal

pub returns-then-is_empty : goal.returns-then-is_empty
returns-then-is_empty c = ([], sym (append-nil _), inr (c.if-is_empty.ensures.empty, refl))

pub returns : goal.returns
returns c =
    let ks = c.in_ok-corners.corners in
    let i = c.args.number in
    let fit = subst (Every IsFit) c.corners.view_is c.corners.invariant.fit in
    on_ok c.push_told.result
    ((more : List CellCorner) × (c.push_told.new.found.items ≡ c.args.found.now.items ++ more) × Paired (IsToldAs i) ks more)
    ((more : List CellCorner) × (c.push_told.new.found.items ≡ c.args.found.now.items ++ more) × AreOfCell i c.args.cell.now more)
    (λ m. (
      m.0,
      m.1,
      inl (
        c.if-is_empty.ensures.point,
        told_of i c.args.cell.now ks m.0 fit c.in_ok-corners.ensures.ascending c.in_ok-corners.ensures.exact m.2,
      ),
    )) c.push_told.ensures

use Rattle.std.proofs.Common.{◌≡◌, ◌∙◌, ◌++◌, ◌∷◌, [], OnOk, ap, subst}
use Rattle.plane_terms.specs.HalfPlane.{HalfPlane, x_over}
use Rattle.plane_terms.specs.Cell.{Cell}
use Rattle.plane_terms.specs.Carve.{kept}
use Rattle.plane_terms.specs.Columns.{last}
use Rattle.column_cut.proofs.Steps.{last_is}
use Rattle.column_cut.proofs.cut.push_right_side.Goals as goal

pub returns : goal.returns
returns c =
    let greatest : c.unwrap_or-greatest.result.now ≡ last c.args.first.now c.args.rest.now = ap (λ b. b.now) c.unwrap_or-greatest.ensures
    ∙ last_is c.last.result c.args.first c.args.rest.now c.last.ensures.value in
    let side = ap (λ (h : HalfPlane). h ∷ []) (c.right_of.ensures ∙ ap x_over greatest) in
    subst (λ (cell : Cell). OnOk c.push_kept.result (c.push_kept.new.self ≡ c.args.cells.now ++ kept (cell ∷ []))) side
    c.push_kept.ensures.ok

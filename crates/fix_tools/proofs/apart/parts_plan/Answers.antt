use Rattle.std.proofs.Common.{◌∙◌, ◌++◌, ◌∷◌, [], List, ap}
use Rattle.plane_terms.specs.Point.{Place}
use Rattle.fix_terms.specs.Plans.{Edit}
use Rattle.fix_terms.specs.declared.edit.Edit.TheVariants.{Put}
use Rattle.fix_terms.specs.Explode.{line_of}
use Rattle.fix_tools.proofs.LineParts.{plan_made, tail_of}
use Rattle.fix_tools.proofs.apart.parts_plan.Goals as goal

pub returns : goal.returns
returns c =
    let ps = c.args.parts.now in
    let x = c.index-parts-0.result in
    plan_made c.args.feature.now ps _ x c.in_ok-shape.shape c.handle-handle.result c.push_back.new.self.items c.push_parts.new.edits.items
    (tail_of ps x c.requires.some c.index-parts-0.is) c.handle-handle.ensures
    (c.in_ok-push_back.ensures.items ∙ ap (λ (es : List Edit). es ++ Put c.handle-handle.result c.in_ok-shape.shape ∷ []) c.new-edits.ensures.items)
    (c.in_ok-shape.ensures ∙ ap (λ (vs : List Place). line_of (vs ∷ [])) c.deref.ensures.value) c.in_ok-push_parts.ensures

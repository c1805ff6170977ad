use Rattle.std.proofs.Common.{◌≡◌, ◌++◌, ◌∙◌, [], ◌∷◌, List, arith, sym, subst, append-nil, ap}
use Rattle.std.proofs.lemmas.List.{take_all}
use Rattle.plane_terms.specs.Point.{Place}
use Rattle.shape.specs.Given.{Ring, rings_in}
use Rattle.fix_terms.specs.declared.edit.Edit.TheVariants.{Add}
use Rattle.fix_terms.specs.Explode.{line_of}
use Rattle.fix_tools.specs.Explode.{added_parts, IsLinePart}
use Rattle.fix_tools.proofs.LineParts.{every_item, added_more}
use Rattle.fix_tools.proofs.apart.push_parts.Goals as goal

pub loop-part-init : goal.loop-part-init
loop-part-init c = sym (append-nil c.args.edits.now.items)

pub part_added-requires : goal.part_added-requires
part_added-requires c =
    subst (λ (vs : List Place). IsLinePart vs) (sym c.deref.ensures.value)
    (every_item IsLinePart (λ (ring : Ring). ring.items) c.args.parts.now c.loop-part.part-index c.part-item.result c.loop-part-test.true
    c.part-item.is c.requires)

pub loop-part-preserved : goal.loop-part-preserved
loop-part-preserved c =
    added_more c.args.feature.now c.args.edits.now.items c.loop-part.edits.items c.push_back.new.self.items c.args.parts.now
    c.loop-part.part-index c.part-item.result c.in_ok-part_added.field-0 c.loop-part-test.true c.part-item.is c.loop-part.invariant
    c.in_ok-push_back.ensures.items
    (c.in_ok-part_added.ensures
    ∙ ap (λ (vs : List Place). Add c.args.feature.now.class c.args.feature.now.subtype (line_of (vs ∷ []))) c.deref.ensures.value)

pub returns : goal.returns
returns c =
    subst (λ (ps : List Ring). c.loop-part.edits.items ≡ c.args.edits.now.items ++ added_parts c.args.feature.now (rings_in ps))
    (take_all _ _ (omega arith)) c.loop-part.invariant

use Rattle.std.proofs.Common.{◌≤◌, ◌/◌, List, length, sym, subst, arith, ◌∙◌, ap}
use Rattle.plane_terms.specs.Point.{Place}
use Rattle.shape.specs.Given.{Ring}
use Rattle.fix_terms.specs.Snap.{with_first, with_last}
use Rattle.fix_tools.proofs.LineParts.{every_item}
use Rattle.fix_tools.proofs.Snapped.{parts_made}
use Rattle.fix_tools.proofs.ends.parts_with_end.Goals as goal

pub part_with_end-requires : goal.part_with_end-requires
part_with_end-requires c =
    subst (λ (vs : List Place). 1 ≤ length vs) (sym c.deref.ensures.value)
    (every_item (λ (part : List Place). 1 ≤ length part) (λ (ring : Ring). ring.items) c.args.parts.now (c.args.end / 2) c.index-parts-at.result
    (omega (arith, c.requires.within)) c.index-parts-at.is c.requires.long)

pub returns : goal.returns
returns c =
    parts_made c.args.end c.args.to c.args.parts.now c.index-parts-at.result c.in_ok-part_with_end.field-0 c.in_ok-made.made.items
    c.push_copies.new.made.items c.push.new.self.items c.push_copies-2.new.made.items c.requires.within c.index-parts-at.is
    (λ z. c.in_ok-part_with_end.ensures.even z ∙ ap (λ (vs : List Place). with_first c.args.to vs) c.deref.ensures.value)
    (λ z. c.in_ok-part_with_end.ensures.odd z ∙ ap (λ (vs : List Place). with_last c.args.to vs) c.deref.ensures.value)
    c.in_ok-made.ensures.items c.in_ok-push_copies.ensures c.in_ok-push.ensures.items c.in_ok-push_copies-2.ensures

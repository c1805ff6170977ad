use Rattle.std.proofs.Common.{◌≡◌, refl, sym, ◌∙◌, Bool, false, List}
use Rattle.std.specs.Prelude.{◌&&◌}
use Rattle.plane_terms.specs.Point.{Place}
use Rattle.plane_terms.specs.Shape.{ends_by, rings_of, segments_of}
use Rattle.plane_terms.specs.declared.kind.Kind.{Kind}
use Rattle.plane_terms.specs.declared.kind.Kind.TheVariants as shapes
use Rattle.topology_terms.specs.Tests.{has_end_at, holds_at}
use Rattle.rule_laws.proofs.Sided.{end_is_sided}
use Rattle.rule_core.proofs.row.ends_there.Goals as goal

pub returns-in-Line : goal.returns-in-Line
returns-in-Line c =
    let s = c.args.g.now.shape in
    rw c.shape-in-Line.ensures at c.has_end_at.ensures ∙ sym (end_is_sided s c.args.place (rw c.shape.ensures at c.kind.ensures.valid))

-- nothing but a line has an end
no_end : (k : Kind) (rings : List (List Place)) (q : Place) (b : Bool) → (k ≡ shapes.Line → ⊥) → false ≡ (has_end_at (ends_by k rings) q && b)
no_end shapes.Line rings q b n = absurd (n refl)
no_end shapes.Point rings q b n = refl
no_end shapes.Polygon rings q b n = refl

pub returns-in_default : goal.returns-in_default
returns-in_default c =
    let s = c.args.g.now.shape in
    no_end s.kind (rings_of s) c.args.place (holds_at (segments_of s) c.args.place)
    (λ e. c.in_default.not-Line (c.kind.ensures.value ∙ (rw c.shape.ensures e)))

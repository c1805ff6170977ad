-- The parts of a shape, as they are written.
use Rattle.std.proofs.Common.{◌≡◌, List, [], ◌∷◌, refl, sym, ap, ◌∙◌}
use Rattle.std.specs.Prelude.{Vec, flat_map}
use Rattle.std.specs.Global.{Global}
use Rattle.plane_terms.specs.Shape.{Shape, rings_of, place_of}
use Rattle.plane_terms.specs.declared.kind.Kind.{Kind}
use Rattle.plane_terms.specs.declared.kind.Kind.TheVariants as kind
use Rattle.plane_terms.specs.Point.{Place}
use Rattle.shape.specs.Given.{lines_in, polygons_in}
use Rattle.wkt_terms.specs.Grammar.{APoint}
use Rattle.wkt_terms.specs.Shapes.{of_lines, of_polygons, geometry_by, shape_text}
use Rattle.wkt_terms.specs.Written.{written}
use Rattle.shape.specs.Given.{Ring, rings_in as lists_of, polygons_in as parts_of}

alone : (lists : List Ring) → flat_map (λ part. part) (lines_in lists) ≡ lists_of lists
alone [] = refl
alone (ring ∷ lists) = ap (λ t. ring.items ∷ t) (alone lists)

pub point_text : (s : Shape) (p : Place) → kind.Point ≡ s.kind → p ≡ place_of s → shape_text s ≡ written (APoint p)
point_text s p k e = ap (λ (j : Kind). written (geometry_by j s)) (sym k) ∙ ap (λ q. written (APoint q)) (sym e)

pub line_text : (s : Shape) (lists : List Ring) → kind.Line ≡ s.kind → (s.kind ≡ kind.Line → lines_in lists ≡ s.parts)
    → shape_text s ≡ written (of_lines (lists_of lists))
line_text s lists k e =
    let rings : rings_of s ≡ lists_of lists = ap (λ parts. flat_map (λ part. part) parts) (sym (e (sym k))) ∙ alone lists in
    ap (λ (j : Kind). written (geometry_by j s)) (sym k) ∙ ap (λ r. written (of_lines r)) rings

pub polygon_text : (s : Shape) (parts : List (Vec Ring Global)) → kind.Polygon ≡ s.kind
    → (s.kind ≡ kind.Polygon → polygons_in parts ≡ s.parts) → shape_text s ≡ written (of_polygons (parts_of parts))
polygon_text s parts k e = ap (λ (j : Kind). written (geometry_by j s)) (sym k) ∙ ap (λ ps. written (of_polygons ps)) (sym (e (sym k)))

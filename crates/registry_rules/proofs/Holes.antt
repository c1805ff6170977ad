-- A polygon's parts of more than one ring, as the code holds them.
use Rattle.std.proofs.Common.{◌≡◌, ◌≢◌, Bool, List, [], ◌∷◌, length, refl, sym, ◌∙◌, ap}
use Rattle.std.specs.Prelude.{Vec, ltb, ◌&&◌, ◌||◌}
use Rattle.std.specs.List.{list_any}
use Rattle.std.specs.Global.{Global}
use Rattle.std.proofs.lemmas.List.{length-map}
use Rattle.plane_terms.specs.Point.{Place}
use Rattle.plane_terms.specs.declared.kind.Kind.{Kind}
use Rattle.plane_terms.specs.declared.kind.Kind.TheVariants as kind
use Rattle.shape.specs.Given.{Ring, rings_in, polygons_in}
use Rattle.topology_terms.specs.Causes.{same_kind}

any_holes : (ps : List (Vec Ring Global)) → list_any (λ (p : Vec Ring Global). ltb 1 (length p.items)) ps
    ≡ list_any (λ (part : List (List Place)). ltb 1 (length part)) (polygons_in ps)
any_holes [] = refl
any_holes (p ∷ ps) = ap (λ n. ltb 1 n || list_any (λ (p : Vec Ring Global). ltb 1 (length p.items)) ps) (sym (length-map p.items (λ ring. ring.items)))
    ∙ ap (λ (b : Bool). ltb 1 (length (rings_in p.items)) || b) (any_holes ps)

pub hole_by : (k : Kind) (parts : List (List (List Place))) (ps : List (Vec Ring Global)) → (k ≡ kind.Polygon → polygons_in ps ≡ parts)
    → (k ≢ kind.Polygon → ps ≡ []) → list_any (λ (p : Vec Ring Global). ltb 1 (length p.items)) ps
    ≡ (same_kind k kind.Polygon && list_any (λ (part : List (List Place)). ltb 1 (length part)) parts)
hole_by kind.Point parts ps h n = ap (list_any (λ (p : Vec Ring Global). ltb 1 (length p.items))) (n (λ e. cc))
hole_by kind.Line parts ps h n = ap (list_any (λ (p : Vec Ring Global). ltb 1 (length p.items))) (n (λ e. cc))
hole_by kind.Polygon parts ps h n = any_holes ps ∙ ap (list_any (λ (part : List (List Place)). ltb 1 (length part))) (h refl)

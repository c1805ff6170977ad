-- Whether a vertex is at a place, ring by ring and part by part.
use Rattle.std.proofs.Common.{◌≡◌, Bool, true, false, List, [], ◌∷◌, ◌++◌, refl, sym, ap, ◌∙◌, Vec}
use Rattle.std.specs.Prelude.{◌||◌}
use Rattle.std.specs.List.{list_any}
use Rattle.std.specs.Global.{Global}
use Rattle.plane_terms.specs.Point.{Place}
use Rattle.shape.specs.Given.{Ring, rings_in, polygons_in, all_rings, all_vertices}
use Rattle.fix_tools.proofs.Exploding.{flat_append}

any_append : {A : Type 0} (t : A → Bool) (xs ys : List A) → list_any t (xs ++ ys) ≡ (list_any t xs || list_any t ys)
any_append t [] ys = refl
any_append t (x ∷ xs) ys = ap (λ b. t x || b) (any_append t xs ys) ∙ joined (t x) (list_any t xs) (list_any t ys)
  where
    joined : (a b c : Bool) → (a || (b || c)) ≡ ((a || b) || c)
    joined true b c = refl
    joined false b c = refl

pub any_rings : (t : Place → Bool) (rings : List Ring) → list_any (λ (r : Ring). list_any t r.items) rings ≡ list_any t (all_vertices (rings_in rings))
any_rings t [] = refl
any_rings t (r ∷ rs) = ap (λ b. list_any t r.items || b) (any_rings t rs) ∙ sym (any_append t r.items (all_vertices (rings_in rs)))

pub any_parts : (t : Place → Bool) (parts : List (Vec Ring Global)) → list_any (λ p. list_any (λ (r : Ring). list_any t r.items) p.items) parts
    ≡ list_any t (all_vertices (all_rings (polygons_in parts)))
any_parts t [] = refl
any_parts t (p ∷ ps) =
    let rest = all_rings (polygons_in ps) in
    ap (λ b. list_any (λ (r : Ring). list_any t r.items) p.items || b) (any_parts t ps)
    ∙ ap (λ b. b || list_any t (all_vertices rest)) (any_rings t p.items)
    ∙ sym (any_append t (all_vertices (rings_in p.items)) (all_vertices rest))
    ∙ ap (λ (vs : List Place). list_any t vs) (sym (flat_append (λ (ring : List Place). ring) (rings_in p.items) rest))

-- What is left of a list, one element later.
use Rattle.std.proofs.Common.{◌≡◌, ℕ, zero, suc, ◌+◌, ◌<◌, List, [], ◌∷◌, ◌++◌, length, get_or, drop, Vec, sym, ap, subst, ◌∙◌, arith}
use Rattle.std.proofs.lemmas.Grind.{flat_map-append}
use Rattle.std.specs.Global.{Global}
use Rattle.plane_terms.specs.Point.{Place}
use Rattle.shape.specs.Given.{Ring, rings_in, polygons_in, all_rings, all_vertices}

dropped_suc : {X : Type 0} (xs : List X) (i : ℕ) (x : X) → i < length xs → x ≡ get_or xs i x → drop i xs ≡ x ∷ drop (suc i) xs
dropped_suc [] i x h e = absurd (omega (arith, h))
dropped_suc (y ∷ ys) zero x h e = ap (λ z. z ∷ ys) (sym e)
dropped_suc (y ∷ ys) (suc i) x h e = dropped_suc ys i x (omega (arith, h)) e

pub item_dropped : {X : Type 0} (xs : List X) (i : ℕ) (x : X) → i < length xs → x ≡ get_or xs i x → drop i xs ≡ x ∷ drop (i + 1) xs
item_dropped xs i x h e = subst (λ (n : ℕ). drop i xs ≡ x ∷ drop n xs) {x = suc i} {y = i + 1} (omega arith) (dropped_suc xs i x h e)

pub ring_dropped : (rs : List Ring) (i : ℕ) (r : Ring) → i < length rs → r ≡ get_or rs i r
    → all_vertices (rings_in (drop i rs)) ≡ r.items ++ all_vertices (rings_in (drop (i + 1) rs))
ring_dropped rs i r h e = ap (λ (qs : List Ring). all_vertices (rings_in qs)) (item_dropped rs i r h e)

pub part_dropped : (ps : List (Vec Ring Global)) (i : ℕ) (p : Vec Ring Global) → i < length ps → p ≡ get_or ps i p
    → all_vertices (all_rings (polygons_in (drop i ps))) ≡ all_vertices (rings_in p.items) ++ all_vertices
    (all_rings (polygons_in (drop (i + 1) ps)))
part_dropped ps i p h e =
    ap (λ (qs : List (Vec Ring Global)). all_vertices (all_rings (polygons_in qs))) (item_dropped ps i p h e)
    ∙ flat_map-append (λ (ring : List Place). ring) (rings_in p.items) (all_rings (polygons_in (drop (i + 1) ps)))

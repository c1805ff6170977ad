-- What one cell and the cells of a list have in common, cell by cell: those of which the polygons leave nothing are left out.
use Rattle.std.proofs.Common.{◌≡◌, ◌↔◌, ◌∙◌, ◌+◌, ℕ, List, [], ◌∷◌, ◌++◌, Some, refl, ap, sym, map, take, append-nil}
use Rattle.std.specs.Prelude.{slice_get}
use Rattle.std.proofs.lemmas.List.{map-append}
use Rattle.std.proofs.lemmas.List.Elements.{filter-append}
use Rattle.plane_terms.specs.Point.{Point}
use Rattle.plane_terms.specs.Cell.{Cell, InCell, HasPoint, meet_of}
use Rattle.plane_terms.specs.Decide.{has_point}
use Rattle.plane_terms.specs.Carve.{kept, carve_of}
use Rattle.cell_laws.proofs.Decision.{has_point-true}
use Rattle.cell_laws.proofs.Meets.{meet_points}
use Rattle.validation_laws.proofs.Joining.{take_one}

pub one_cell : (c : Cell) (ds : List Cell) → carve_of (c ∷ []) ds ≡ kept (map {A = Cell} (meet_of c) ds)
one_cell c ds = ap kept (append-nil (map {A = Cell} (meet_of c) ds))

shares_joined : (c : Cell) (ds es : List Cell) → carve_of (c ∷ []) (ds ++ es) ≡ carve_of (c ∷ []) ds ++ carve_of (c ∷ []) es
shares_joined c ds es =
    one_cell c (ds ++ es) ∙ (ap kept (map-append (meet_of c) ds es)
    ∙ (filter-append has_point (map {A = Cell} (meet_of c) ds) (map {A = Cell} (meet_of c) es)
    ∙ (ap (λ x. x ++ kept (map {A = Cell} (meet_of c) es)) (sym (one_cell c ds)) ∙ ap (λ x. carve_of (c ∷ []) ds ++ x) (sym (one_cell c es)))))

pub shares_more : (c : Cell) (ds : List Cell) (i : ℕ) (d : Cell) → slice_get ds i ≡ Some d
    → carve_of (c ∷ []) (take (i + 1) ds) ≡ carve_of (c ∷ []) (take i ds) ++ carve_of (c ∷ []) (d ∷ [])
shares_more c ds i d e = ap (carve_of (c ∷ [])) (take_one ds i d e) ∙ shares_joined c (take i ds) (d ∷ [])

pub kept_one : (c d : Cell) → HasPoint (meet_of c d) → carve_of (c ∷ []) (d ∷ []) ≡ meet_of c d ∷ []
kept_one c d h = rw ((has_point-true (meet_of c d)).1 h) refl

-- where a piece has the points of the cell
pub point_shared : (c o d e : Cell) → ((p : Point) → InCell o p ↔ InCell c p) → ((p : Point) → InCell e p ↔ (InCell o p × InCell d p))
    → HasPoint e → HasPoint (meet_of c d)
point_shared c o d e s n h =
    let m = (n h.0).0 h.1 in
    (h.0, (meet_points c d h.0).1 ((s h.0).0 m.0, m.1))

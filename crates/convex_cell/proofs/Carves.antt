-- Carving by one cell after the other.
use Rattle.std.proofs.Common.{◌≡◌, ℕ, ◌+◌, List, [], ◌∷◌, ◌++◌, Some, ◌∙◌, ap, map, take, get_or, append-nil, append_assoc, sym}
use Rattle.std.specs.Prelude.{flat_map, slice_get}
use Rattle.std.proofs.lemmas.Grind.{flat_map-append}
use Rattle.std.proofs.lemmas.List.{map-append, take_more}
use Rattle.std.proofs.lemmas.List.Elements.{filter-append}
use Rattle.std.proofs.lemmas.Option.{get_or_from_slice_get, slice_get_within}
use Rattle.plane_terms.specs.Carve.{kept, carve_of}
use Rattle.plane_terms.specs.Cell.{Cell, meet_of}
use Rattle.plane_terms.specs.Decide.{has_point}

-- with one cell more
pub carve_more : (cs ds : List Cell) (i : ℕ) (c : Cell) → slice_get cs i ≡ Some c
    → carve_of (take (i + 1) cs) ds ≡ carve_of (take i cs) ds ++ kept (map {A = Cell} (meet_of c) ds)
carve_more cs ds i c e =
    let row : Cell → List Cell = λ (x : Cell). map {A = Cell} (meet_of x) ds in
    let one : get_or cs i c ≡ c = get_or_from_slice_get cs i c c e in
    let more : take (i + 1) cs ≡ take i cs ++ c ∷ [] = take_more cs i c (slice_get_within cs i c e) ∙ ap (λ x. take i cs ++ x ∷ []) one in
    let rows : flat_map row (take (i + 1) cs) ≡ flat_map row (take i cs) ++ row c = ap (flat_map row) more
    ∙ (flat_map-append row (take i cs) (c ∷ []) ∙ ap (λ y. flat_map row (take i cs) ++ y) (append-nil (row c))) in
    ap kept rows ∙ filter-append has_point (flat_map row (take i cs)) (row c)

-- of one cell, with one more of the others
pub met_more : (c : Cell) (ds before made : List Cell) (i : ℕ) (d : Cell) → slice_get ds i ≡ Some d
    → made ≡ before ++ kept (map {A = Cell} (meet_of c) (take i ds))
    → made ++ kept (meet_of c d ∷ []) ≡ before ++ kept (map {A = Cell} (meet_of c) (take (i + 1) ds))
met_more c ds before made i d e h =
    let row : List Cell → List Cell = λ xs. map {A = Cell} (meet_of c) xs in
    let one : get_or ds i d ≡ d = get_or_from_slice_get ds i d d e in
    let more : take (i + 1) ds ≡ take i ds ++ d ∷ [] = take_more ds i d (slice_get_within ds i d e) ∙ ap (λ x. take i ds ++ x ∷ []) one in
    let rows : kept (row (take (i + 1) ds)) ≡ kept (row (take i ds)) ++ kept (meet_of c d ∷ []) = ap kept (ap row more
    ∙ map-append (meet_of c) (take i ds) (d ∷ [])) ∙ filter-append has_point (row (take i ds)) (meet_of c d ∷ []) in
    ap (λ y. y ++ kept (meet_of c d ∷ [])) h ∙ (append_assoc before (kept (row (take i ds))) (kept (meet_of c d ∷ []))
    ∙ ap (λ y. before ++ y) (sym rows))

-- Carving is cell by cell, and where no point is left, no cell is.
use Rattle.std.proofs.Common.{◌≡◌, inl, ℕ, ◌+◌, List, [], ◌∷◌, ◌++◌, Some, refl, sym, ◌∙◌, ap, subst, take, drop, map}
use Rattle.std.specs.Prelude.{slice_get, flat_map}
use Rattle.std.proofs.lemmas.Grind.{flat_map-append}
use Rattle.std.proofs.lemmas.List.{take-append-drop}
use Rattle.std.proofs.lemmas.List.Elements.{filter-append}
use Rattle.plane_terms.specs.Lists.{SomeOf}
use Rattle.plane_terms.specs.Point.{Point}
use Rattle.plane_terms.specs.Cell.{Cell, InCells, HavePoints, meet_of}
use Rattle.plane_terms.specs.Decide.{has_point}
use Rattle.plane_terms.specs.Carve.{kept, carve_of}
use Rattle.plane_terms.proofs.ListLemmas.{SomeOf-append_right}
use Rattle.topology_terms.specs.Cells.{uncovered}
use Rattle.rule_loops.proofs.Rest.{drop_one}

-- ---- cell by cell
carve_append : (cs ds es : List Cell) → carve_of (cs ++ ds) es ≡ carve_of cs es ++ carve_of ds es
carve_append cs ds es =
    let met : Cell → List Cell = λ c. map {A = Cell} (meet_of c) es in
    ap kept (flat_map-append met cs ds) ∙ filter-append has_point (flat_map met cs) (flat_map met ds)

pub uncovered_joined : (cs ds : List Cell) (dss : List (List Cell)) → uncovered (cs ++ ds) dss ≡ uncovered cs dss ++ uncovered ds dss
uncovered_joined cs ds [] = refl
uncovered_joined cs ds (es ∷ dss) =
    ap (λ us. uncovered us dss) (carve_append cs ds es) ∙ uncovered_joined (carve_of cs es) (carve_of ds es) dss

-- ---- a cell that is covered
pub none_left : (cs : List Cell) → HavePoints cs → ((p : Point) → ¬ (InCells cs p)) → cs ≡ []
none_left [] h n = refl
none_left (c ∷ cs) h n = absurd (n h.0.0 (inl h.0.1))

pub some_at : {A : Type 0} (P : A → Type 0) (xs : List A) (i : ℕ) (x : A) → slice_get xs i ≡ Some x → P x → SomeOf P xs
some_at P xs i x e h =
    let split : take i xs ++ x ∷ drop (i + 1) xs ≡ xs = ap (λ ys. take i xs ++ ys) (sym (drop_one xs i x e)) ∙ take-append-drop i xs in
    subst (SomeOf P) split (SomeOf-append_right P (take i xs) (x ∷ drop (i + 1) xs) (inl h))

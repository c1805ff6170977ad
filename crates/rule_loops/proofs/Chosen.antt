-- The outsides of the polygons that are chosen from a view.
use Rattle.std.proofs.Common.{◌≡◌, ℕ, ◌+◌, ◌≤◌, Bool, true, false, List, Option, None, [], ◌∷◌, ◌++◌, Some, refl, sym, ◌∙◌, ap, drop, length, cond, map, append_assoc, arith}
use Rattle.std.specs.Prelude.{slice_get, ◌&&◌}
use Rattle.std.specs.List.{filter}
use Rattle.std.proofs.lemmas.List.{drop_all}
use Rattle.plane_terms.specs.Cell.{Cell}
use Rattle.plane_terms.specs.Carve.{carve_of}
use Rattle.topology_terms.specs.Feature.{Feature, is_on_side, Side}
use Rattle.topology_terms.specs.Cells.{uncovered, inside, outside}
use Rattle.topology_terms.specs.Plans.{area_left}
use Rattle.rule_loops.specs.Apart.{uncovered-nil}
use Rattle.rule_loops.specs.Open.{chosen, outsides}
use Rattle.topology_terms.specs.Together.{of_side}
use Rattle.rule_loops.proofs.Carved.{uncovered-append}
use Rattle.rule_loops.proofs.Rest.{drop_one}

-- ---- those that are still to come
outsides_from : (S : Side) (o : Option ℕ) (F : List Feature) (i : ℕ) (g : Feature) (b : Bool) → slice_get F i ≡ Some g → chosen S o g ≡ b
    → outsides S o (drop i F) ≡ cond b (outside g ∷ outsides S o (drop (i + 1) F)) (outsides S o (drop (i + 1) F))
outsides_from S o F i g b e t = ap (outsides S o) (drop_one F i g e) ∙ by_test b t
  where
    by_test : (b : Bool) → chosen S o g ≡ b
        → outsides S o (g ∷ drop (i + 1) F) ≡ cond b (outside g ∷ outsides S o (drop (i + 1) F)) (outsides S o (drop (i + 1) F))
    by_test true t = ap (λ (c : Bool). map {A = Feature} outside (cond c (g ∷ filter (chosen S o) (drop (i + 1) F)) (filter (chosen S o) (drop (i + 1) F)))) t
    by_test false t = ap (λ (c : Bool). map {A = Feature} outside (cond c (g ∷ filter (chosen S o) (drop (i + 1) F)) (filter (chosen S o) (drop (i + 1) F)))) t

-- one that is held
pub held_more : (S : Side) (o : Option ℕ) (F : List Feature) (i : ℕ) (g : Feature) (d : List Cell) (held new all : List (List Cell))
    → slice_get F i ≡ Some g → chosen S o g ≡ true → d ≡ outside g → new ≡ held ++ d ∷ [] → held ++ outsides S o (drop i F) ≡ all
    → new ++ outsides S o (drop (i + 1) F) ≡ all
held_more S o F i g d held new all e t is l h =
    let rest = outsides S o (drop (i + 1) F) in
    ap (λ dss. dss ++ rest) (l ∙ ap (λ ds. held ++ ds ∷ []) is) ∙ (append_assoc held (outside g ∷ []) rest
    ∙ (ap (λ dss. held ++ dss) (sym (outsides_from S o F i g true e t)) ∙ h))

pub held_same : (S : Side) (o : Option ℕ) (F : List Feature) (i : ℕ) (g : Feature) (held new all : List (List Cell)) → slice_get F i ≡ Some g
    → chosen S o g ≡ false → new ≡ held → held ++ outsides S o (drop i F) ≡ all → new ++ outsides S o (drop (i + 1) F) ≡ all
held_same S o F i g held new all e t l h =
    ap (λ dss. dss ++ outsides S o (drop (i + 1) F)) l ∙ (ap (λ dss. held ++ dss) (sym (outsides_from S o F i g false e t)) ∙ h)

pub held_all : (S : Side) (o : Option ℕ) (F : List Feature) (i k : ℕ) (held all : List (List Cell)) → length F ≤ i → length F ≤ k
    → held ++ outsides S o (drop i F) ≡ all → held ++ outsides S o (drop k F) ≡ all
held_all S o F i k held all l m h = ap (λ G. held ++ outsides S o G) (drop_all k F m ∙ sym (drop_all i F l)) ∙ h

pub turn_more : (S : Side) (o : Option ℕ) (F : List Feature) (i : ℕ) (g : Feature) (left made all : List Cell) → slice_get F i ≡ Some g
    → chosen S o g ≡ true → made ≡ carve_of left (outside g) → uncovered left (outsides S o (drop i F)) ≡ all
    → uncovered made (outsides S o (drop (i + 1) F)) ≡ all
turn_more S o F i g left made all e t m h = ap (λ cs. uncovered cs (outsides S o (drop (i + 1) F))) m
    ∙ (sym (ap (uncovered left) (outsides_from S o F i g true e t)) ∙ h)

pub turn_same : (S : Side) (o : Option ℕ) (F : List Feature) (i : ℕ) (g : Feature) (left made all : List Cell) → slice_get F i ≡ Some g
    → chosen S o g ≡ false → made ≡ left → uncovered left (outsides S o (drop i F)) ≡ all
    → uncovered made (outsides S o (drop (i + 1) F)) ≡ all
turn_same S o F i g left made all e t m h = ap (λ cs. uncovered cs (outsides S o (drop (i + 1) F))) m
    ∙ (sym (ap (uncovered left) (outsides_from S o F i g false e t)) ∙ h)

-- what those that are held leave, and then the rest
pub left_in_turn : (cells left : List Cell) (held rest all : List (List Cell)) → left ≡ uncovered cells held → held ++ rest ≡ all
    → uncovered left rest ≡ uncovered cells all
left_in_turn cells left held rest all l a = ap (λ us. uncovered us rest) l ∙ (sym (uncovered-append cells held rest) ∙ ap (uncovered cells) a)

pub turn_none : (dss : List (List Cell)) (left all : List Cell) → length left ≡ 0 → uncovered left dss ≡ all → left ≡ all
turn_none dss [] all z h = sym (uncovered-nil dss) ∙ h
turn_none dss (c ∷ left) all z h = absurd (omega arith)

pub turn_end : (S : Side) (o : Option ℕ) (F : List Feature) (i : ℕ) (left all : List Cell) → length F ≤ i
    → uncovered left (outsides S o (drop i F)) ≡ all → left ≡ all
turn_end S o F i left all l h = sym (ap (λ G. uncovered left (outsides S o G)) (drop_all i F l)) ∙ h

-- ---- all of a side
pub alone_chosen : (S : Side) (F : List Feature) → filter (chosen S None) F ≡ of_side S F
alone_chosen n [] = refl
alone_chosen S (g ∷ F) = by_test (is_on_side S g) (alone_chosen S F)
  where
    by_test : (b : Bool) → filter (chosen S None) F ≡ of_side S F
        → cond (b && true) (g ∷ filter (chosen S None) F) (filter (chosen S None) F) ≡ cond b (g ∷ of_side S F) (of_side S F)
    by_test true e = ap (λ hs. g ∷ hs) e
    by_test false e = e

pub side_left : (f : Feature) (S : Side) (F : List Feature) → uncovered (inside f) (outsides S None F) ≡ area_left f (of_side S F)
side_left f S F = ap (λ gs. uncovered (inside f) (map {A = Feature} outside gs)) (alone_chosen S F)

-- What polygons leave of a cell, part by part: the first of them leaves the parts that the cell shares with the cells of its outside, and
-- those behind it carve each part.
use Rattle.std.proofs.Common.{◌≡◌, ◌↔◌, ◌∙◌, ◌≤◌, ◌<◌, ◌+◌, inl, inr, ℕ, Bool, List, [], ◌∷◌, ◌++◌, Some, true, false, refl, ap, sym, get_or, take, append-nil, append_assoc}
use Rattle.std.specs.Prelude.{slice_get}
use Rattle.std.proofs.lemmas.Option.{slice_get-get_or}
use Rattle.plane_terms.specs.Point.{Point}
use Rattle.plane_terms.specs.Cell.{Cell, InCell, InCells, HasPoint, meet_of}
use Rattle.plane_terms.specs.Decide.{has_point}
use Rattle.plane_terms.specs.Carve.{carve_of}
use Rattle.topology_terms.specs.Cells.{uncovered}
use Rattle.cell_laws.proofs.Decision.{has_point-true}
use Rattle.cell_laws.proofs.Meets.{carve_points, kept_have_points, meet_points}
use Rattle.convex_cell.proofs.Steps.{none_before, passed, none_after}
use Rattle.rule_laws.proofs.Uncovered.{uncovered_points, uncovered_have_points}
use Rattle.rule_loops.specs.Apart.{uncovered-nil}
use Rattle.rule_loops.specs.Open.{IsInEach, left_of_part}
use Rattle.rule_loops.proofs.Opened.{uncovered_joined, none_left}
use Rattle.rule_loops.proofs.Shares.{one_cell, shares_more, kept_one}

-- what is left of the parts that the cell shares with the first n of the others
abbrev pub left_of_parts : Cell → List Cell → List (List Cell) → ℕ → List Cell
left_of_parts c ds rest n = uncovered (carve_of (c ∷ []) (take n ds)) rest

no_point : (c d : Cell) → ((p : Point) → InCell c p → ¬ (InCell d p)) → has_point (meet_of c d) ≡ false
no_point c d n = by_test (has_point (meet_of c d)) refl
  where
    by_test : (b : Bool) → has_point (meet_of c d) ≡ b → b ≡ false
    by_test false e = refl
    by_test true e =
        let h = (has_point-true (meet_of c d)).0 e in
        let m = (meet_points c d h.0).0 h.1 in
        absurd (n h.0 m.0 m.1)

pub none_yet : (c : Cell) (ds : List Cell) (rest : List (List Cell)) (n : ℕ)
    → ((k : ℕ) (d : Cell) → slice_get ds k ≡ Some d → k < n → (p : Point) → InCell c p → ¬ (InCell d p)) → left_of_parts c ds rest n ≡ []
none_yet c ds rest n f = ap (λ us. uncovered us rest) (one_cell c (take n ds) ∙ none_before c ds n
    (λ k d h l. no_point c (get_or ds k d) (f k (get_or ds k d) (slice_get-get_or ds k d l) h)))
    ∙ uncovered-nil rest

pub left_passed : (c : Cell) (ds : List Cell) (rest : List (List Cell)) (m n : ℕ) → m ≤ n
    → ((k : ℕ) (d : Cell) → slice_get ds k ≡ Some d → m ≤ k → k < n → (p : Point) → InCell c p → ¬ (InCell d p))
    → left_of_parts c ds rest m ≡ left_of_parts c ds rest n
left_passed c ds rest m n l f = ap (λ us. uncovered us rest) (one_cell c (take m ds) ∙ (passed c ds m n l
    (λ k d a b h. no_point c (get_or ds k d) (f k (get_or ds k d) (slice_get-get_or ds k d h) a b))
    ∙ sym (one_cell c (take n ds))))

pub all_of_it : (c : Cell) (ds : List Cell) (rest : List (List Cell)) (n : ℕ)
    → ((k : ℕ) (d : Cell) → slice_get ds k ≡ Some d → n ≤ k → (p : Point) → InCell c p → ¬ (InCell d p))
    → left_of_parts c ds rest n ≡ uncovered (c ∷ []) (ds ∷ rest)
all_of_it c ds rest n f = ap (λ us. uncovered us rest) (one_cell c (take n ds) ∙ (none_after c ds n
    (λ k d h l. no_point c (get_or ds k d) (f k (get_or ds k d) (slice_get-get_or ds k d l) h))
    ∙ sym (one_cell c ds)))

part_more : (c : Cell) (ds : List Cell) (rest : List (List Cell)) (i : ℕ) (d : Cell) → slice_get ds i ≡ Some d
    → left_of_parts c ds rest (i + 1) ≡ left_of_parts c ds rest i ++ left_of_part c rest d
part_more c ds rest i d e =
    ap (λ us. uncovered us rest) (shares_more c ds i d e) ∙ uncovered_joined (carve_of (c ∷ []) (take i ds)) (carve_of (c ∷ []) (d ∷ [])) rest

alone : (b : Cell) (p : Point) → InCells (b ∷ []) p → InCell b p
alone b p h = elim h [ inl k ↦ k | inr k ↦ absurd k ]

-- a part of which the polygons behind leave nothing
part_none : (c d : Cell) (rest : List (List Cell)) → ((p : Point) → InCell c p → InCell d p → ¬ (IsInEach rest p)) → left_of_part c rest d ≡ []
part_none c d rest n =
    none_left (left_of_part c rest d) (uncovered_have_points (carve_of (c ∷ []) (d ∷ [])) rest (kept_have_points (meet_of c d ∷ []))) none
  where
    none : (p : Point) → ¬ (InCells (left_of_part c rest d) p)
    none p k =
        let m = (uncovered_points (carve_of (c ∷ []) (d ∷ [])) rest p).0 k in
        let both = (carve_points (c ∷ []) (d ∷ []) p).0 m.0 in
        n p (alone c p both.0) (alone d p both.1) m.1

pub part_without : (c d : Cell) (rest : List (List Cell)) (left : List Cell) → ((p : Point) → InCell c p → InCell d p → ¬ (IsInEach rest p))
    → left ≡ left ++ left_of_part c rest d
part_without c d rest left n = sym (ap (λ us. left ++ us) (part_none c d rest n) ∙ append-nil left)

pub part_with : (c d : Cell) (rest : List (List Cell)) (left new : List Cell) → HasPoint (meet_of c d)
    → new ≡ left ++ uncovered (meet_of c d ∷ []) rest → new ≡ left ++ left_of_part c rest d
part_with c d rest left new p n = n ∙ ap (λ us. left ++ us) (sym (ap (λ us. uncovered us rest) (kept_one c d p)))

-- one part more
pub one_more : (c : Cell) (ds : List Cell) (rest : List (List Cell)) (i : ℕ) (d : Cell) (before left new : List Cell) → slice_get ds i ≡ Some d
    → new ≡ left ++ left_of_part c rest d → left ≡ before ++ left_of_parts c ds rest i → new ≡ before ++ left_of_parts c ds rest (i + 1)
one_more c ds rest i d before left new e n h =
    let part = left_of_part c rest d in
    n ∙ (ap (λ us. us ++ part) h ∙ (append_assoc before (left_of_parts c ds rest i) part ∙ ap (λ us. before ++ us) (sym (part_more c ds rest i d e))))

pub one_without : (c : Cell) (ds : List Cell) (rest : List (List Cell)) (i : ℕ) (d : Cell) (before left : List Cell) → slice_get ds i ≡ Some d
    → ((p : Point) → InCell c p → InCell d p → ¬ (IsInEach rest p)) → left ≡ before ++ left_of_parts c ds rest i
    → left ≡ before ++ left_of_parts c ds rest (i + 1)
one_without c ds rest i d before left e n h = one_more c ds rest i d before left left e (part_without c d rest left n) h

pub one_with : (c : Cell) (ds : List Cell) (rest : List (List Cell)) (i : ℕ) (d : Cell) (before left new : List Cell) → slice_get ds i ≡ Some d
    → HasPoint (meet_of c d) → new ≡ left ++ uncovered (meet_of c d ∷ []) rest → left ≡ before ++ left_of_parts c ds rest i
    → new ≡ before ++ left_of_parts c ds rest (i + 1)
one_with c ds rest i d before left new e p n h = one_more c ds rest i d before left new e (part_with c d rest left new p n) h

-- a whole cell of which nothing is left
pub cell_none : (c : Cell) (near : List (List Cell)) → HasPoint c → ((p : Point) → InCell c p → ¬ (IsInEach near p)) → uncovered (c ∷ []) near ≡ []
cell_none c near h n = none_left (uncovered (c ∷ []) near) (uncovered_have_points (c ∷ []) near (h, tt))
    (λ p k. let m = (uncovered_points (c ∷ []) near p).0 k in n p (alone c p m.0) m.1)

-- the points of a piece that is narrowed, and of the cell
pub same_met : (c o d e : Cell) → ((p : Point) → InCell o p ↔ InCell c p) → ((p : Point) → InCell e p ↔ (InCell o p × InCell d p)) → (p : Point)
    → InCell e p ↔ InCell (meet_of c d) p
same_met c o d e s n p = (
  λ m. let k = (n p).0 m in (meet_points c d p).1 ((s p).0 k.0, k.1),
  λ m. let k = (meet_points c d p).0 m in (n p).1 ((s p).1 k.0, k.1),
)

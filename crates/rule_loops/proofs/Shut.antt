-- A piece of a cell, which is narrowed by one cell of a polygon's outside after the other, and widened again.
use Rattle.std.proofs.Common.{◌≡◌, ◌∙◌, ◌≤◌, ◌<◌, inl, inr, ℕ, zero, suc, List, [], ◌∷◌, Some, arith, refl, ap, subst, length, get_or, take, drop}
use Rattle.std.specs.Prelude.{slice_get}
use Rattle.std.proofs.lemmas.Bool.{cases_lt}
use Rattle.std.proofs.lemmas.List.{length-take}
use Rattle.std.proofs.lemmas.Option.{slice_get-get_or}
use Rattle.plane_terms.specs.Point.{Point}
use Rattle.plane_terms.specs.Cell.{Cell, InCell, InCells}
use Rattle.rule_loops.specs.Open.{IsInEach}
use Rattle.rule_loops.proofs.Rest.{drop_one}

-- no point of c that is in each of the lists near is in d
abbrev pub IsShutIn : List (List Cell) → Cell → Cell → Type 0
IsShutIn near c d = (p : Point) → InCell c p → InCell d p → ¬ (IsInEach near p)

abbrev pub AreShut : List (List Cell) → Cell → List Cell → ℕ → Type 0
AreShut near c ds n = (j : ℕ) → (d : Cell) → j < n → slice_get ds j ≡ Some d → IsShutIn near c d

some_index : (p : Point) (ds : List Cell) → InCells ds p → (j : ℕ) × (d : Cell) × (slice_get ds j ≡ Some d) × InCell d p
some_index p [] h = absurd h
some_index p (d ∷ ds) (inl h) = (0, d, refl, h)
some_index p (d ∷ ds) (inr h) = let k = some_index p ds h in (suc k.0, k.1, k.2, k.3)

-- those before n are shut, and the others are clear of the piece
pub all_shut : (near : List (List Cell)) (c : Cell) (ds : List Cell) (n : ℕ) → ((p : Point) → IsInEach near p → InCells ds p)
    → AreShut near c ds n
    → ((j : ℕ) → (d : Cell) → slice_get ds j ≡ Some d → n ≤ j → (p : Point) → InCell c p → ¬ (InCell d p)) → (p : Point) → InCell c p
    → ¬ (IsInEach near p)
all_shut near c ds n e h f p m i =
    let s = some_index p ds (e p i) in
    elim (cases_lt s.0 n) [ inl b ↦ h s.0 s.1 b s.2 p m s.3 i | inr a ↦ f s.0 s.1 s.2 a p m s.3 ]

pub at_index : (ds : List Cell) (i : ℕ) → i < length ds → slice_get ds i ≡ Some (get_or ds i [])
at_index ds i l = slice_get-get_or ds i [] l

-- ---- as wide again
pub begins_within : (c e : Cell) → take (length c) e ≡ c → length c ≤ length e
begins_within c e h = omega (arith, length-take (length c) e, ap length h)

pub restored : (c e g w : Cell) (n : ℕ) → n ≡ length c → take (length c) e ≡ c → g ≡ e → w ≡ take n g → w ≡ c
restored c e g w n l b s h = h ∙ (ap (take n) s ∙ (ap (λ m. take m e) l ∙ b))

-- ---- polygons from a place of the list on
each_from : (near : List (List Cell)) (k : ℕ) (p : Point) → IsInEach near p → IsInEach (drop k near) p
each_from near zero p h = h
each_from [] (suc k) p h = tt
each_from (ds ∷ near) (suc k) p h = each_from near k p h.1

pub each_later : (near : List (List Cell)) (j k : ℕ) (p : Point) → j ≤ k → IsInEach (drop j near) p → IsInEach (drop k near) p
each_later near zero k p l h = each_from near k p h
each_later near (suc j) zero p l h = absurd (omega arith)
each_later [] (suc j) (suc k) p l h = tt
each_later (ds ∷ near) (suc j) (suc k) p l h = each_later near j k p (omega arith) h

pub in_one : (near : List (List Cell)) (j k : ℕ) (ds : List Cell) → j ≤ k → slice_get near k ≡ Some ds → (p : Point) → IsInEach (drop j near) p
    → InCells ds p
in_one near j k ds l e p h = (subst (λ dss. IsInEach dss p) (drop_one near k ds e) (each_later near j k p l h)).0

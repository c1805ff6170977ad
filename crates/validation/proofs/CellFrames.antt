-- The frame of a list of cells: the frame of the last one, widened by each of the others.
use Rattle.std.proofs.Common.{◌≡◌, ◌≢◌, ◌∙◌, ℕ, ◌<◌, ◌+◌, List, [], ◌∷◌, ◌++◌, ◌⊎◌, Some, inl, inr, refl, sym, subst, arith, take, length, get_or}
use Rattle.std.specs.Prelude.{slice_get}
use Rattle.std.proofs.lemmas.List.{take_more, take_all}
use Rattle.std.proofs.lemmas.Option.{slice_get-get_or}
use Rattle.plane_terms.specs.Point.{Point}
use Rattle.plane_terms.specs.Rectangle.{Rectangle, RectHolds}
use Rattle.plane_terms.specs.Cell.{Cell, InCell, InCells, IsLeastFrame}
use Rattle.plane_terms.proofs.ListLemmas.{SomeOf-append_left, SomeOf-append_right, SomeOf-either}
use Rattle.sound_laws.proofs.Planes.{within_Holds}
use Rattle.convex_cell.specs.Frame.{IsWidened}

pub some_cell : (cs : List Cell) → cs ≢ [] → 0 < length cs
some_cell [] n = absurd (n refl)
some_cell (c ∷ cs) n = omega arith

least_widened : (c : Cell) (r s : Rectangle) (ds : List Cell) → IsLeastFrame r ds → IsWidened c r s → IsLeastFrame s (ds ++ c ∷ [])
least_widened c r s ds h w = record {
  holds = λ p m. holds p (SomeOf-either (λ (d : Cell). InCell d p) ds (c ∷ []) m);
  least = λ t all. w.least t (h.least t (λ p m. all p (SomeOf-append_left (λ (d : Cell). InCell d p) ds (c ∷ []) m)))
      (λ p m. all p (SomeOf-append_right (λ (d : Cell). InCell d p) ds (c ∷ []) (inl m)));
}
  where
    holds : (p : Point) → InCells ds p ⊎ InCells (c ∷ []) p → RectHolds s p
    holds p (inl m) = within_Holds r s w.round p (h.holds p m)
    holds p (inr (inl m)) = w.holds p m
    holds p (inr (inr m)) = absurd m

least_turned : (r : Rectangle) (c : Cell) (ds : List Cell) → IsLeastFrame r (c ∷ ds) → IsLeastFrame r (ds ++ c ∷ [])
least_turned r c ds h = record {
  holds = λ p m. h.holds p (back p (SomeOf-either (λ (d : Cell). InCell d p) ds (c ∷ []) m));
  least = λ t all. h.least t (λ p m. all p (there p m));
}
  where
    back : (p : Point) → InCells ds p ⊎ InCells (c ∷ []) p → InCells (c ∷ ds) p
    back p (inl m) = inr m
    back p (inr (inl m)) = inl m
    back p (inr (inr m)) = absurd m

    there : (p : Point) → InCells (c ∷ ds) p → InCells (ds ++ c ∷ []) p
    there p (inl m) = SomeOf-append_right (λ (d : Cell). InCell d p) ds (c ∷ []) (inl m)
    there p (inr m) = SomeOf-append_left (λ (d : Cell). InCell d p) ds (c ∷ []) m

pub frame_begun : (cs : List Cell) (n : ℕ) (r : Rectangle) → n < length cs → ((c : Cell) → slice_get cs n ≡ Some c → IsLeastFrame r (c ∷ []))
    → IsLeastFrame r (get_or cs n [] ∷ [])
frame_begun cs n r l h = h (get_or cs n []) (slice_get-get_or cs n [] l)

pub frame_widened : (cs : List Cell) (c : Cell) (i : ℕ) (r s : Rectangle) → i < length cs → IsLeastFrame r (c ∷ take i cs)
    → ((d : Cell) → slice_get cs i ≡ Some d → IsWidened d r s) → IsLeastFrame s (c ∷ take (i + 1) cs)
frame_widened cs c i r s l h k =
    let d : Cell = get_or cs i [] in
    rw (take_more cs i [] l) (least_widened d r s (c ∷ take i cs) h (k d (slice_get-get_or cs i [] l)))

pub frame_ended : (cs : List Cell) (n : ℕ) (r : Rectangle) → n + 1 ≡ length cs → IsLeastFrame r (get_or cs n [] ∷ take n cs) → IsLeastFrame r cs
frame_ended cs n r e h =
    let whole : take n cs ++ get_or cs n [] ∷ [] ≡ cs = sym (take_more cs n [] (omega arith)) ∙ take_all (n + 1) cs (omega arith) in
    subst (λ (ds : List Cell). IsLeastFrame r ds) whole (least_turned r (get_or cs n []) (take n cs) h)

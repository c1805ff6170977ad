-- Places, and the vertices that are kept.
use Rattle.std.proofs.Common.{◌≡◌, ℤ, Bool, true, false, cond, ◌&&◌, List, [], ◌∷◌, arith, refl, ap, ◌∙◌, int_eq}
use Rattle.std.proofs.lemmas.Int.{ints}
use Rattle.std.specs.List.{dedup, dedup_from}
use Rattle.plane_terms.specs.Point.{Place, same_place}
use Rattle.plane_terms.specs.Shape.{without_repeats}
use Rattle.cell_laws.proofs.AtPlaces.{same_is}

pub same_turned : (p q : Place) → same_place q p ≡ same_place p q
same_turned p q = numbers p.x p.y q.x q.y
  where
    numbers : (a b x y : ℤ) → int_eq x a && int_eq y b ≡ (int_eq a x && int_eq b y)
    numbers a b x y = grind (arith, ints)

-- ---- equal neighbours once
-- E x y: y is dropped after x, as std's `dedup` reads its test
kept_from : (E : Place → Place → Bool) → ((x y : Place) → E x y ≡ same_place y x) → (p : Place) (ps : List Place)
    → dedup_from E p ps ≡ without_repeats (p ∷ ps)
kept_from E h p [] = refl
kept_from E h p (q ∷ qs) = step (E q p) (same_place p q) (h q p) (same_is p q) (kept_from E h p qs) (kept_from E h q qs)
  where
    step : (b v : Bool) → b ≡ v → (v ≡ true → p ≡ q) → dedup_from E p qs ≡ without_repeats (p ∷ qs)
        → dedup_from E q qs ≡ without_repeats (q ∷ qs)
        → cond b (dedup_from E p qs) (p ∷ dedup_from E q qs) ≡ cond v (without_repeats (q ∷ qs)) (p ∷ without_repeats (q ∷ qs))
    step true true e f k l = k ∙ ap (λ (r : Place). without_repeats (r ∷ qs)) (f refl)
    step true false e f k l = cc
    step false true e f k l = cc
    step false false e f k l = ap (λ rs. p ∷ rs) l

pub kept_is : (E : Place → Place → Bool) → ((x y : Place) → E x y ≡ same_place y x) → (ps : List Place) → dedup E ps ≡ without_repeats ps
kept_is E h [] = refl
kept_is E h (p ∷ ps) = kept_from E h p ps

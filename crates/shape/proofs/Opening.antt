-- The last vertices of a ring that are equal to its first.
use Rattle.std.proofs.Common.{◌≡◌, ℕ, ◌-◌, ◌<◌, Bool, true, false, cond, ◌&&◌, List, [], ◌∷◌, ◌++◌, length, get_or, reverse, refl, sym, ap, subst, ◌∙◌, arith, int_eq, length-append}
use Rattle.std.proofs.lemmas.List.{reverse-append, reverse-reverse}
use Rattle.plane_terms.specs.Point.{Place, same_place}
use Rattle.plane_terms.specs.Shape.{opened, skip_equal}
use Rattle.shape.proofs.Places.{same_turned}

pub closing_dropped : (f x : Place) (fs : List Place) → same_place f x ≡ true → opened (f ∷ fs ++ x ∷ []) ≡ opened (f ∷ fs)
closing_dropped f x fs e =
    ap (λ (rs : List Place). f ∷ reverse (skip_equal f rs)) (reverse-append fs (x ∷ []))
    ∙ ap (λ (b : Bool). f ∷ reverse (cond b (skip_equal f (reverse fs)) (x ∷ reverse fs))) e

other_stays : (f x : Place) (fs : List Place) → same_place f x ≡ false → opened (f ∷ fs ++ x ∷ []) ≡ f ∷ fs ++ x ∷ []
other_stays f x fs e =
    ap (λ (rs : List Place). f ∷ reverse (skip_equal f rs)) (reverse-append fs (x ∷ []))
    ∙ ap (λ (b : Bool). f ∷ reverse (cond b (skip_equal f (reverse fs)) (x ∷ reverse fs))) e
    ∙ ap (λ (rs : List Place). f ∷ reverse rs) (sym (reverse-append fs (x ∷ [])))
    ∙ ap (λ (rs : List Place). f ∷ rs) (reverse-reverse (fs ++ x ∷ []))

last_at : (ws : List Place) (x d : Place) → get_or (ws ++ x ∷ []) (length ws) d ≡ x
last_at [] x d = refl
last_at (w ∷ ws) x d = last_at ws x d

pub at_place : {i j : ℕ} (xs : List Place) (d : Place) → i ≡ j → get_or xs i d ≡ get_or xs j d
at_place {i} {j} xs d e = ap (λ (n : ℕ). get_or xs n d) e

last_read : (f x d : Place) (fs : List Place) → d ≡ get_or (f ∷ fs ++ x ∷ []) (length (f ∷ fs ++ x ∷ []) - 1) d → d ≡ x
last_read f x d fs e =
    e ∙ at_place {i = length (f ∷ fs ++ x ∷ []) - 1} {j = length (f ∷ fs)} (f ∷ fs ++ x ∷ []) d (omega (arith, length-append fs (x ∷ [])))
    ∙ last_at (f ∷ fs) x d

-- a is the last, b the first
test_is : (f x a b : Place) (v : Bool) → a ≡ x → b ≡ f → int_eq a.x b.x && int_eq a.y b.y ≡ v → same_place f x ≡ v
test_is f x a b v e h t = same_turned x f ∙ subst (λ (q : Place). same_place x q ≡ v) h (subst (λ (p : Place). same_place p b ≡ v) e t)

-- one more that closes is taken away
pub open_step : (xs ys : List Place) (x a b : Place) → xs ≡ ys ++ x ∷ [] → 1 < length xs → a ≡ get_or xs (length xs - 1) a
    → b ≡ get_or xs 0 b → int_eq a.x b.x && int_eq a.y b.y ≡ true → opened ys ≡ opened xs
open_step xs [] x a b e l p q t = absurd (omega (arith, l, ap length e))
open_step xs (f ∷ fs) x a b e l p q t =
    let p' : a ≡ get_or (f ∷ fs ++ x ∷ []) (length (f ∷ fs ++ x ∷ []) - 1) a = subst (λ us. a ≡ get_or us (length us - 1) a) e p in
    let q' : b ≡ f = subst (λ us. b ≡ get_or us 0 b) e q in
    sym (ap opened e ∙ closing_dropped f x fs (test_is f x a b true (last_read f x a fs p') q' t))

split_last : (v : Place) (vs : List Place) → (ys : List Place) × (x : Place) × (v ∷ vs ≡ ys ++ x ∷ [])
split_last v [] = ([], v, refl)
split_last v (w ∷ ws) =
    let k = split_last w ws in
    (v ∷ k.0, k.1, ap (λ us. v ∷ us) k.2)

open_split : (xs ys : List Place) (x a b : Place) → xs ≡ ys ++ x ∷ [] → 1 < length xs → a ≡ get_or xs (length xs - 1) a → b ≡ get_or xs 0 b
    → int_eq a.x b.x && int_eq a.y b.y ≡ false → xs ≡ opened xs
open_split xs [] x a b e l p q t = absurd (omega (arith, l, ap length e))
open_split xs (f ∷ fs) x a b e l p q t =
    let p' : a ≡ get_or (f ∷ fs ++ x ∷ []) (length (f ∷ fs ++ x ∷ []) - 1) a = subst (λ us. a ≡ get_or us (length us - 1) a) e p in
    let q' : b ≡ f = subst (λ us. b ≡ get_or us 0 b) e q in
    e ∙ sym (ap opened e ∙ other_stays f x fs (test_is f x a b false (last_read f x a fs p') q' t))

-- where the last one differs, nothing is dropped
pub open_end : (xs : List Place) (a b : Place) → 1 < length xs → a ≡ get_or xs (length xs - 1) a → b ≡ get_or xs 0 b
    → int_eq a.x b.x && int_eq a.y b.y ≡ false → xs ≡ opened xs
open_end [] a b l p q t = refl
open_end (v ∷ vs) a b l p q t =
    let k = split_last v vs in
    open_split (v ∷ vs) k.0 k.1 a b k.2 l p q t

-- of one vertex or none
pub open_short : (xs : List Place) → length xs < 2 → xs ≡ opened xs
open_short [] h = refl
open_short (v ∷ []) h = refl
open_short (v ∷ w ∷ ws) h = absurd (omega (arith, h))

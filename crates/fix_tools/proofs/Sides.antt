-- Features of a side that pass a test.
use Rattle.std.proofs.Common.{◌≡◌, Bool, true, false, cond, List, [], ◌∷◌, refl}
use Rattle.std.specs.Prelude.{◌&&◌, ◌||◌}
use Rattle.std.specs.List.{filter, list_any}

pub any_kept : {A : Type 0} (kept test : A → Bool) (xs : List A) → list_any test (filter kept xs) ≡ list_any (λ x. kept x && test x) xs
any_kept kept test [] = refl
any_kept {A} kept test (x ∷ xs) = pick (kept x) (any_kept kept test xs)
  where
    pick : (b : Bool) → list_any test (filter kept xs) ≡ list_any (λ x. kept x && test x) xs
        → list_any test (cond b (x ∷ filter kept xs) (filter kept xs)) ≡ ((b && test x) || list_any (λ x. kept x && test x) xs)
    pick true e = rw e refl
    pick false e = e

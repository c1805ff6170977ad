-- What holds of each element of a list.
use Rattle.std.proofs.Common.{◌≡◌, refl, Bool, true, false, cond, List, [], ◌∷◌}
use Rattle.plane_terms.specs.Lists.{Every}

pub every_both : {A : Type 0} (P Q : A → Type 0) → (xs : List A) → Every P xs → Every Q xs → Every (λ x. P x × Q x) xs
every_both P Q [] h k = tt
every_both P Q (x ∷ xs) h k = ((h.0, k.0), every_both P Q xs h.1 k.1)

-- a fact of either value of a choice
pub by_test : {A : Type 0} (P : A → Type 0) (b : Bool) (u v : A) → (b ≡ true → P u) → (b ≡ false → P v) → P (cond b u v)
by_test P true u v f g = f refl
by_test P false u v f g = g refl

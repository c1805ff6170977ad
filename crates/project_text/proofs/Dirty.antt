-- A rectangle that is nested with none of the dirt goes to its end.
use Rattle.std.proofs.Common.{◌≡◌, false, not, List, [], ◌∷◌, ◌++◌, refl, ap}
use Rattle.std.specs.List.{list_any, filter}
use Rattle.std.proofs.lemmas.Bool.{or_parts}
use Rattle.plane_terms.specs.Rectangle.{Rectangle, is_within}
use Rattle.plane_terms.specs.Dirt.{add_dirt}
use Rattle.project_terms.specs.Verdicts.{are_nested}

none_holds : (r : Rectangle) (d : List Rectangle) → list_any (are_nested r) d ≡ false → list_any (λ s. is_within r s) d ≡ false
none_holds r [] h = refl
none_holds r (s ∷ d) h =
    let n = or_parts (are_nested r s) (list_any (are_nested r) d) h in
    let m = or_parts (is_within r s) (is_within s r) n.0 in
    rw m.0 (none_holds r d n.1)

all_stay : (r : Rectangle) (d : List Rectangle) → list_any (are_nested r) d ≡ false → filter (λ s. not (is_within s r)) d ≡ d
all_stay r [] h = refl
all_stay r (s ∷ d) h =
    let n = or_parts (are_nested r s) (list_any (are_nested r) d) h in
    let m = or_parts (is_within r s) (is_within s r) n.0 in
    rw m.1 (ap (λ t. s ∷ t) (all_stay r d n.1))

pub put_last : (r : Rectangle) (d : List Rectangle) → list_any (are_nested r) d ≡ false → add_dirt d r ≡ d ++ r ∷ []
unfolding add_dirt
put_last r d h = rw (none_holds r d h) (ap (λ t. t ++ r ∷ []) (all_stay r d h))

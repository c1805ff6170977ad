-- Sides that their test calls equal, are.
use Rattle.std.proofs.Common.{◌≡◌, ℕ, true, refl, ap, Option, None, Some, arith}
use Rattle.std.specs.Prelude.{◌==◌}
use Rattle.std.proofs.lemmas.Bool.Decides.{nat_tests}
use Rattle.plane_terms.proofs.Truths.{both_parts}
use Rattle.topology_terms.specs.Feature.{Side}
use Rattle.topology_terms.specs.Causes.{same_subtype, same_side}

equal_numbers : (m n : ℕ) → (m == n) ≡ true → m ≡ n
equal_numbers m n e = grind (arith, nat_tests)

own_number : (n : ℕ) → (n == n) ≡ true
own_number n = grind (arith, nat_tests)

equal_subtypes : (a b : Option ℕ) → same_subtype a b ≡ true → a ≡ b
equal_subtypes None None e = refl
equal_subtypes (Some s) (Some t) e = ap Some (equal_numbers s t e)
equal_subtypes None (Some t) e = absurd cc
equal_subtypes (Some s) None e = absurd cc

pub equal_sides : (A B : Side) → same_side A B ≡ true → A ≡ B
equal_sides A B e =
    let k = both_parts (A.class == B.class) (same_subtype A.subtype B.subtype) e in
    let class = equal_numbers A.class B.class k.0 in
    let subtype = equal_subtypes A.subtype B.subtype k.1 in
    λ i. record { class = class i; subtype = subtype i }

own_subtype : (a : Option ℕ) → same_subtype a a ≡ true
own_subtype None = refl
own_subtype (Some s) = own_number s

pub own_side : (A : Side) → same_side A A ≡ true
own_side A = rw (own_number A.class, own_subtype A.subtype) refl

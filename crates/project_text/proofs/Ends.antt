-- Lists that grow at their end.
use Rattle.std.proofs.Common.{ℕ, ◌≡◌, ◌<◌, Bool, false, List, [], ◌∷◌, ◌++◌, refl, arith}
use Rattle.std.specs.List.{list_any}
use Rattle.plane_terms.specs.Lists.{Every, EveryPair}
use Rattle.plane_terms.proofs.ListLemmas.{every_append}
use Rattle.std.proofs.lemmas.Bool.{or_parts}
use Rattle.topology_terms.specs.Keyed.{numbered, IsAscendingBy}
use Rattle.sound_laws.proofs.Keyed as keyed
use Rattle.project_terms.specs.Drafts.{last_in}

pub every_end : {A : Type 0} (P : A → Type 0) (xs : List A) (y : A) → Every P xs → P y → Every P (xs ++ y ∷ [])
every_end P xs y h p = every_append P xs (y ∷ []) h (p, tt)

pub pairs_end : {A : Type 0} (R : A → A → Type 0) (xs : List A) (y : A) → EveryPair R xs → Every (λ x. R x y) xs
    → EveryPair R (xs ++ y ∷ [])
pairs_end R [] y h p = (tt, tt)
pairs_end R (x ∷ xs) y h p = (every_end (R x) xs y h.0 p.0, pairs_end R xs y h.1 p.1)

-- a test that passes none
pub none_pass : {A : Type 0} (test : A → Bool) (xs : List A) → list_any test xs ≡ false → Every (λ x. test x ≡ false) xs
none_pass test [] h = tt
none_pass test (x ∷ xs) h = let n = or_parts (test x) (list_any test xs) h in (n.0, none_pass test xs n.1)

pub none_any : {A : Type 0} (test : A → Bool) (xs : List A) → Every (λ x. test x ≡ false) xs → list_any test xs ≡ false
none_any test [] h = refl
none_any test (x ∷ xs) h = rw h.0 (none_any test xs h.1)

-- ---- lists that ascend by a number: all are below what stands above the last
pub all_below : {A : Type 0} (number : A → ℕ) (xs : List A) (n : ℕ) → IsAscendingBy (numbered number) xs → last_in number xs < n
    → Every (λ (x : A). number x < n) xs
all_below number [] n a l = tt
all_below number (x ∷ []) n a l = (l, tt)
all_below number (x ∷ y ∷ xs) n a l = let i = all_below number (y ∷ xs) n a.1 l in (omega (arith, a.0.0, i.0), i)

pub last_below : {A : Type 0} (number : A → ℕ) (xs : List A) (n : ℕ) → 0 < n → Every (λ (x : A). number x < n) xs → last_in number xs < n
last_below number [] n some h = some
last_below number (x ∷ []) n some h = h.0
last_below number (x ∷ y ∷ xs) n some h = last_below number (y ∷ xs) n some h.1

pub ascending_end : {A : Type 0} (number : A → ℕ) (xs : List A) (x : A) → IsAscendingBy (numbered number) xs
    → last_in number xs < number x → IsAscendingBy (numbered number) (xs ++ x ∷ [])
ascending_end number xs x a l = keyed.ascending_last (numbered number) (keyed.numbers number) xs x a (all_below number xs (number x) a l)

-- Lists that ascend by a key: features by handle, rules in force by number, findings by partner, errors by rule, subject and partner.
--
-- Keyed A K            the key of an element, the test of equal keys, and which key comes before which
-- item_at by xs k      the first element of this key
-- IsAscendingBy by xs  each key comes before those behind it

-- without by xs k      the list without the elements of this key, in its order
use Rattle.std.specs.Prelude.{ℕ, ◌==◌, ◌<◌, Bool, not, List, Option}
use Rattle.std.specs.List.{find, filter}
use Rattle.plane_terms.specs.Lists.{EveryPair}

pub record Keyed (A K : Type 0) : Type 1 where
  pub key : A → K
  pub same : K → K → Bool
  pub IsBefore : K → K → Type 0

-- by a number
abbrev pub numbered : {A : Type 0} → (A → ℕ) → Keyed A ℕ
numbered number = record { key = number; same = λ m n. m == n; IsBefore = λ m n. m < n }

abbrev pub item_at : {A K : Type 0} → Keyed A K → List A → K → Option A
item_at by xs k = find (λ x. by.same (by.key x) k) xs

abbrev pub IsAscendingBy : {A K : Type 0} → Keyed A K → List A → Type 0
IsAscendingBy by xs = EveryPair (λ x y. by.IsBefore (by.key x) (by.key y)) xs

abbrev pub without : {A K : Type 0} → Keyed A K → List A → K → List A
without by xs k = filter (λ x. not (by.same (by.key x) k)) xs

-- Elements of increasing lists, by place.
use Rattle.std.proofs.Common.{ℕ, ◌≡◌, ◌<◌, List, sym, arith, take, length, get_or, subst}
use Rattle.std.specs.Prelude.{All}
use Rattle.std.specs.List.Sorted.{IsStrictlyIncreasing}
use Rattle.std.proofs.lemmas.List.{get_or-take, length-take}
use Rattle.std.proofs.lemmas.List.Elements.{All-from_get_or}
use Rattle.std.proofs.lemmas.List.Kept.{AllPairs-from_increasing}

-- the numbers before one of an increasing list are below it
pub all_before : (xs : List ℕ) (i x : ℕ) → IsStrictlyIncreasing xs → i < length xs → x ≡ get_or xs i x → All (λ h. h < x) (take i xs)
all_before xs i x u l e = All-from_get_or (λ h. h < x) (take i xs) x (λ k m.
    let short : k < i = (let n = length-take i xs in omega arith) in
    let p : get_or xs k x < get_or xs i x = AllPairs-from_increasing xs u k i x short l in
    subst (λ n. n < x) (sym (get_or-take i xs k x short)) (subst (λ n. get_or xs k x < n) (sym e) p))

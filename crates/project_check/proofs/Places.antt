-- Elements before one of an increasing list.
use Rattle.std.proofs.Common.{◌≡◌, ℕ, ◌<◌, zero, suc, List, [], ◌∷◌, inl, inr, sym, subst, arith, take, length, get_or}
use Rattle.plane_terms.specs.Lists.{Every, EveryPair}
use Rattle.plane_terms.proofs.ListLemmas.{IsAmong, every_among}

-- what holds of those before an element holds of each whose number is less
pub holds_below : {A : Type 0} (number : A → ℕ) (P : A → Type 0) (xs : List A) (i : ℕ) (x : A)
    → EveryPair (λ y z. number y < number z) xs → i < length xs → x ≡ get_or xs i x → Every P (take i xs) → (y : A)
    → number y < number x → IsAmong y xs → P y
holds_below number P [] i x u l e h y b m = absurd m
holds_below number P (z ∷ xs) zero x u l e h y b m = elim m [
  | inl s ↦ absurd (not_below s b)
  | inr k ↦ let a = every_among (λ w. number z < number w) xs u.0 y k in absurd (not_above a b)
]
  where
    not_below : y ≡ z → number y < number x → ⊥
    not_below s b =
        let c : number y < number z = subst (λ w. number y < number w) e b in
        let d : number z < number z = subst (λ w. number w < number z) s c in
        omega arith

    not_above : number z < number y → number y < number x → ⊥
    not_above a b =
        let c : number y < number z = subst (λ w. number y < number w) e b in
        omega arith
holds_below number P (z ∷ xs) (suc i) x u l e h y b m = elim m [
  | inl s ↦ subst P (sym s) h.0
  | inr k ↦ holds_below number P xs i x u.1 (omega arith) e h.1 y b k
]

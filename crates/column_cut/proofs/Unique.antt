-- Strictly ordered lists with the same members are equal.
use Rattle.std.proofs.Common.{◌≡◌, sym, subst, ap, refl, inl, inr, ◌∙◌, List, [], ◌∷◌}
use Rattle.plane_terms.specs.Lists.{Every, EveryPair}
use Rattle.plane_terms.proofs.ListLemmas.{IsAmong, every_among}

module _ {X : Type 0} (R : X → X → Type 0) (asym : (a b : X) → R a b → R b a → ⊥) where
  head_same : (x y : X) (xs ys : List X) → Every (R x) xs → Every (R y) ys → IsAmong x (y ∷ ys) → IsAmong y (x ∷ xs) → x ≡ y
  head_same x y xs ys f g (inl e) n = e
  head_same x y xs ys f g (inr m) (inl e) = sym e
  head_same x y xs ys f g (inr m) (inr n) = absurd (asym x y (every_among (R x) xs f y n) (every_among (R y) ys g x m))

  tail_member : (x y : X) (xs ys : List X) → Every (R x) xs → x ≡ y → (z : X) → IsAmong z xs → IsAmong z (y ∷ ys) → IsAmong z ys
  tail_member x y xs ys f e z m (inr n) = n
  tail_member x y xs ys f e z m (inl k) =
      let xz : R x z = every_among (R x) xs f z m in
      let xx : R x x = subst (R x) (k ∙ sym e) xz in
      absurd (asym x x xx xx)

  pub same_by_members : (xs ys : List X) → EveryPair R xs → EveryPair R ys → ((z : X) → IsAmong z xs → IsAmong z ys)
      → ((z : X) → IsAmong z ys → IsAmong z xs) → xs ≡ ys
  same_by_members [] [] f g h k = refl
  same_by_members [] (y ∷ ys) f g h k = absurd (k y (inl refl))
  same_by_members (x ∷ xs) [] f g h k = absurd (h x (inl refl))
  same_by_members (x ∷ xs) (y ∷ ys) f g h k =
      let e = head_same x y xs ys f.0 g.0 (h x (inl refl)) (k y (inl refl)) in
      let t = same_by_members xs ys f.1 g.1 (λ z m. tail_member x y xs ys f.0 e z m (h z (inr m)))
      (λ z m. tail_member y x ys xs g.0 (sym e) z m (k z (inr m))) in
      ap (λ a. a ∷ xs) e ∙ ap (λ zs. y ∷ zs) t

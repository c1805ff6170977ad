-- A loop over a list: what is left of it, with one element less.
use Rattle.std.proofs.Common.{◌≡◌, ℕ, ◌+◌, Bool, true, false, List, [], ◌∷◌, ◌++◌, refl, sym, ◌∙◌, ap, drop, append_assoc}
use Rattle.std.specs.Prelude.{slice_get, Some}
use Rattle.std.specs.List.{filter}
use Rattle.std.proofs.lemmas.List.{drop_more}
use Rattle.std.proofs.lemmas.Option.{get_or_from_slice_get, slice_get_within}

pub drop_one : {A : Type 0} (xs : List A) (i : ℕ) (x : A) → slice_get xs i ≡ Some x → drop i xs ≡ x ∷ drop (i + 1) xs
drop_one xs i x e = drop_more xs i x (slice_get_within xs i x e) ∙ ap (λ y. y ∷ drop (i + 1) xs) (get_or_from_slice_get xs i x x e)

-- ---- those that pass a test
pub passing_more : {A : Type 0} (test : A → Bool) (xs done old new : List A) (i : ℕ) (x : A) → slice_get xs i ≡ Some x → test x ≡ true
    → new ≡ old ++ x ∷ [] → old ++ filter test (drop i xs) ≡ done → new ++ filter test (drop (i + 1) xs) ≡ done
passing_more test xs done old new i x g t n h =
    let rest = filter test (drop (i + 1) xs) in
    ap (λ ys. ys ++ rest) n ∙ (append_assoc old (x ∷ []) rest
    ∙ (sym (ap (λ ys. old ++ ys) (ap (filter test) (drop_one xs i x g) ∙ rw t refl)) ∙ h))

pub passing_same : {A : Type 0} (test : A → Bool) (xs done old new : List A) (i : ℕ) (x : A) → slice_get xs i ≡ Some x → test x ≡ false
    → new ≡ old → old ++ filter test (drop i xs) ≡ done → new ++ filter test (drop (i + 1) xs) ≡ done
passing_same test xs done old new i x g t n h =
    let rest = filter test (drop (i + 1) xs) in
    ap (λ ys. ys ++ rest) n ∙ (sym (ap (λ ys. old ++ ys) (ap (filter test) (drop_one xs i x g) ∙ rw t refl)) ∙ h)

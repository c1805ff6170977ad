-- Of how many elements of a list something holds, by a test; and over features of which some are left out.
use Rattle.std.proofs.Common.{◌≡◌, ◌↔◌, inl, inr, ℕ, suc, Bool, true, false, refl, sym, ◌∙◌, ap, List, [], ◌∷◌, ◌++◌, length, cond, arith}
use Rattle.std.specs.Prelude.{filter, flat_map, ◌==◌}
use Rattle.std.proofs.lemmas.Bool.{false≢true}
use Rattle.plane_terms.specs.Lists.{Every, SomeOf, IsThose, how_many, AreMany}
use Rattle.plane_terms.specs.Point.{Point}
use Rattle.plane_terms.specs.Rectangle.{RectHolds, holds_point}
use Rattle.topology_terms.specs.Feature.{Feature, env}
use Rattle.sound_laws.proofs.FeatureLists.{same_handle, own_handle}
use Rattle.plane_terms.proofs.ListLemmas.{those_one}
use Rattle.rule_laws.proofs.Around.{holds_test, round}

module _ {A : Type 0} (U P : A → Type 0) (test : A → Bool) (m : (x : A) → U x → (test x ≡ true) ↔ P x) where
  kept_pick : (x : A) (xs ys : List A) (b : Bool) → (b ≡ true) ↔ P x → IsThose P xs ys → IsThose P (x ∷ xs) (cond b (x ∷ ys) ys)
  kept_pick x xs ys true a h = inl (a.0 refl, (ys, refl, h))
  kept_pick x xs ys false a h = inr ((λ q. false≢true (a.1 q)), h)

  pub those_filter : (xs : List A) → Every U xs → IsThose P xs (filter test xs)
  those_filter [] u = refl
  those_filter (x ∷ xs) u = kept_pick x xs (filter test xs) (test x) (m x u.0) (those_filter xs u.1)

  many_length : (xs : List A) → how_many test xs ≡ length (filter test xs)
  many_length [] = refl
  many_length (x ∷ xs) = pick (test x) (many_length xs)
    where
      pick : (b : Bool) → how_many test xs ≡ length (filter test xs)
          → cond b (suc (how_many test xs)) (how_many test xs) ≡ length (cond b (x ∷ filter test xs) (filter test xs))
      pick true e = omega (arith, e)
      pick false e = e

  pub count_test : (xs : List A) (n : ℕ) → Every U xs → ((how_many test xs == n) ≡ true) ↔ AreMany P xs n
  count_test xs n u = (
    (λ t. (filter test xs, those_filter xs u, sym (many_length xs) ∙ same_handle (how_many test xs) n t)),
    (λ h.
        let e = those_one P xs h.0 (filter test xs) h.1 (those_filter xs u) in
        let k : how_many test xs ≡ n = many_length xs ∙ (ap length (sym e) ∙ h.2) in
        rw k (own_handle n)),
  )

-- ---- lists put together
those_ahead : {A : Type 0} (P : A → Type 0) (xs zs us : List A) → ((ys : List A) → IsThose P zs ys → IsThose P us ys) → (ys : List A)
    → IsThose P (xs ++ zs) ys → IsThose P (xs ++ us) ys
those_ahead P [] zs us m ys h = m ys h
those_ahead P (x ∷ xs) zs us m ys h = elim h [
  | inl a ↦ inl (a.0, (a.1.0, a.1.1, those_ahead P xs zs us m a.1.0 a.1.2))
  | inr b ↦ inr (b.0, those_ahead P xs zs us m ys b.1)
]

those_past : {A : Type 0} (P : A → Type 0) (xs zs : List A) → ¬ (SomeOf P xs) → (ys : List A) → IsThose P (xs ++ zs) ys ↔ IsThose P zs ys
those_past P [] zs n ys = (λ h. h, λ h. h)
those_past P (x ∷ xs) zs n ys =
    let k = those_past P xs zs (λ i. n (inr i)) ys in (
      λ h. elim h [ inl a ↦ absurd (n (inl a.0)) | inr b ↦ k.0 b.1 ],
      λ h. inr ((λ i. n (inl i)), k.1 h),
    )

-- ---- over features: those that do not hold the point have none
module _ {A : Type 0} (items : Feature → List A) (P : A → Point → Type 0) (Fit : Feature → Type 0)
    (held : (g : Feature) (p : Point) → Fit g → SomeOf (λ x. P x p) (items g) → RectHolds (env g) p) (p : Point) where
  H : A → Type 0
  H x = P x p

  all : List Feature → List A
  all gs = flat_map items gs

  near_pick : (g : Feature) (gs : List Feature) (b : Bool) → holds_point (env g) p ≡ b → Fit g
      → ((ys : List A) → IsThose H (all gs) ys ↔ IsThose H (all (round p gs)) ys) → (ys : List A)
      → IsThose H (items g ++ all gs) ys ↔ IsThose H (all (cond b (g ∷ round p gs) (round p gs))) ys
  unfolding H all
  near_pick g gs true e u m ys = (
    those_ahead H (items g) (all gs) (all (round p gs)) (λ zs h. (m zs).0 h) ys,
    those_ahead H (items g) (all (round p gs)) (all gs) (λ zs h. (m zs).1 h) ys,
  )
  near_pick g gs false e u m ys =
      let k = those_past H (items g) (all gs) (λ i. false≢true (sym e ∙ holds_test (env g) p (held g p u i))) ys in
      let n = m ys in
      (λ h. n.0 (k.0 h), λ h. k.1 (n.1 h))

  those_round : (gs : List Feature) → Every Fit gs → (ys : List A) → IsThose H (all gs) ys ↔ IsThose H (all (round p gs)) ys
  unfolding H all
  those_round [] u ys = (λ h. h, λ h. h)
  those_round (g ∷ gs) u ys = near_pick g gs (holds_point (env g) p) refl u.0 (λ zs. those_round gs u.1 zs) ys

  pub many_round : (gs hs : List Feature) (n : ℕ) → Every Fit gs → Every Fit hs → round p gs ≡ round p hs
      → AreMany (λ x. P x p) (flat_map items gs) n → AreMany (λ x. P x p) (flat_map items hs) n
  unfolding H all
  many_round gs hs n u v e h =
      let a : IsThose H (all (round p hs)) h.0 = rw e at ((those_round gs u h.0).0 h.1) in
      (h.0, (those_round hs v h.0).1 a, h.2)

-- Each place once, at its first: with one place more.
use Rattle.std.proofs.Common.{◌≡◌, ℕ, ◌+◌, Bool, true, false, List, [], ◌∷◌, ◌++◌, Some, refl, sym, ◌∙◌, ap, take, get_or, cond}
use Rattle.std.specs.Prelude.{slice_get, not}
use Rattle.std.specs.List.{filter, list_any}
use Rattle.std.proofs.lemmas.List.{take_more}
use Rattle.std.proofs.lemmas.List.Elements.{filter-append}
use Rattle.std.proofs.lemmas.Map.Views.{any-filter_same}
use Rattle.std.proofs.lemmas.Option.{get_or_from_slice_get, slice_get_within}
use Rattle.plane_terms.specs.Point.{Place, same_place}
use Rattle.topology_terms.specs.Tests.{in_order_once, has_end_at}
use Rattle.cell_laws.proofs.AtPlaces.{same_is, is_same}
use Rattle.plane_terms.proofs.Truths.{same_by_truth}

turned : (q r : Place) → same_place q r ≡ same_place r q
turned q r = same_by_truth (same_place q r) (same_place r q) (λ t. is_same r q (sym (same_is q r t)))
    (λ t. is_same q r (sym (same_is r q t)))

-- what is at r is not at q, where r is not
elsewhere : (q r : Place) → same_place q r ≡ false → (s : Place) → same_place r s ≡ true → not (same_place q s) ≡ true
elsewhere q r n s t = rw (sym (same_is r s t)) (rw n refl)

pub once_more : (qs : List Place) (r : Place)
    → in_order_once (qs ++ r ∷ []) ≡ in_order_once qs ++ cond (has_end_at (in_order_once qs) r) [] (r ∷ [])
once_more [] r = refl
once_more (q ∷ qs) r =
    let other : Place → Bool = λ s. not (same_place q s) in
    let rest = in_order_once qs in
    let there = has_end_at rest r in
    ap (λ ps. q ∷ ps) (ap (filter other) (once_more qs r) ∙ (filter-append other rest (cond there [] (r ∷ []))
    ∙ ap (λ ps. filter other rest ++ ps) (last there (same_place q r) refl refl)))
  where
    last : (b c : Bool) → has_end_at (in_order_once qs) r ≡ b → same_place q r ≡ c → filter (λ s. not (same_place q s)) (cond b [] (r ∷ []))
        ≡ cond (has_end_at (q ∷ filter (λ s. not (same_place q s)) (in_order_once qs)) r) [] (r ∷ [])
    last true true e f = let m = sym (turned q r) ∙ f in rw m refl
    last false true e f = let m = sym (turned q r) ∙ f in rw (f, m) refl
    last b false e f =
        let m = sym (turned q r) ∙ f in
        let k : list_any (same_place r) (filter (λ s. not (same_place q s)) (in_order_once qs)) ≡ b =
        any-filter_same (same_place r) (λ s. not (same_place q s)) true (elsewhere q r f) (in_order_once qs) ∙ e in
        rw (m, k) (by b f)
      where
        by : (b : Bool) → same_place q r ≡ false → filter (λ s. not (same_place q s)) (cond b [] (r ∷ [])) ≡ cond b [] (r ∷ [])
        by true f = refl
        by false f = rw f refl

pub once_next : (qs : List Place) (i : ℕ) (r : Place) (b : Bool) (ends : List Place) → slice_get qs i ≡ Some r → ends
    ≡ in_order_once (take i qs) → has_end_at ends r ≡ b → ends ++ cond b [] (r ∷ []) ≡ in_order_once (take (i + 1) qs)
once_next qs i r b ends e h t =
    let there : get_or qs i r ≡ r = get_or_from_slice_get qs i r r e in
    let step = ap in_order_once (take_more qs i r (slice_get_within qs i r e) ∙ ap (λ p. take i qs ++ p ∷ []) there) in
    let now : has_end_at (in_order_once (take i qs)) r ≡ b = rw (← h) t in
    sym (step ∙ (once_more (take i qs) r ∙ rw (now, ← h) refl))

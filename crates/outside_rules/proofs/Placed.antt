-- The first of a list that has a word and takes a kind, as a loop finds it; and what the one that stands there says.
use Rattle.std.proofs.Common.{◌≡◌, inl, inr, ℕ, true, false, ◌+◌, suc, ◌<◌, List, [], ◌∷◌, Some, None, length, get_or, drop, map, refl, sym, ◌∙◌, ap, subst, arith, add-one, drop-cons}
use Rattle.std.proofs.lemmas.List.{get_or-map, length-map}
use Rattle.std.specs.Prelude.{bytes_eq, if◌then◌else◌}
use Rattle.plane_terms.specs.declared.kind.Kind.{Kind}
use Rattle.sound_laws.proofs.Dirts.{bool_cases}
use Rattle.topology_terms.specs.Causes.{same_kind}
use Rattle.topology_terms.specs.Feature.{Feature}
use Rattle.outside_rule_terms.specs.Outside.{Outside, first_named, breaks_by}
use Rattle.outside_rule_terms.specs.Asked.{place_from, place_of}

-- ---- along the list
module _ {A : Type 0} (seen : A → Outside) (w : List ℕ) (k : Kind) where
  on : (xs : List A) (i : ℕ) (x : A) → i < length xs → x ≡ get_or xs i x → drop i xs ≡ x ∷ drop (i + 1) xs
  on xs i x l e = drop-cons xs i x l ∙ (ap (λ y. y ∷ drop (suc i) xs) (sym e) ∙ ap (λ n. x ∷ drop n xs) (sym (add-one i)))

  pub past : (xs : List A) (i : ℕ) (x : A) → i < length xs → x ≡ get_or xs i x
      → place_from i (map seen (drop i xs)) w k ≡ place_of (map seen xs) w k → bytes_eq (seen x).word w ≡ false
      → place_from (i + 1) (map seen (drop (i + 1) xs)) w k ≡ place_of (map seen xs) w k
  past xs i x l e h t = let s = on xs i x l e in rw (s, t) at h

  pub here : (xs : List A) (i : ℕ) (x : A) → i < length xs → x ≡ get_or xs i x
      → place_from i (map seen (drop i xs)) w k ≡ place_of (map seen xs) w k → bytes_eq (seen x).word w ≡ true
      → (if same_kind k (seen x).kind then Some i else None) ≡ place_of (map seen xs) w k
  here xs i x l e h t = let s = on xs i x l e in rw (s, t) at h

-- ---- what stands there
pub record IsFirst (outs : List Outside) (w : List ℕ) (k : Kind) (j : ℕ) (o : Outside) : Type 0 where
  pub within : j < length outs
  pub here : o ≡ get_or outs j o
  pub first : first_named outs w ≡ Some o
  pub kind : same_kind k o.kind ≡ true

first_here : (n : ℕ) (o : Outside) (outs : List Outside) (w : List ℕ) (k : Kind) (p : ℕ) → bytes_eq o.word w ≡ true
    → place_from n (o ∷ outs) w k ≡ Some p → (p ≡ n) × (same_kind k o.kind ≡ true)
first_here n o outs w k p t e = elim (bool_cases (same_kind k o.kind)) [
  | inl s ↦ let h : Some n ≡ Some p = rw (t, s) at e in ((let m : n ≡ p = cc in sym m), s)
  | inr s ↦ let h : None ≡ Some p = rw (t, s) at e in absurd cc
]

pub placed : (n : ℕ) (outs : List Outside) (w : List ℕ) (k : Kind) (p : ℕ) → place_from n outs w k ≡ Some p
    → (j : ℕ) × (p ≡ n + j) × (o : Outside) × IsFirst outs w k j o
placed n [] w k p e = absurd cc
placed n (o ∷ outs) w k p e = elim (bool_cases (bytes_eq o.word w)) [
  | inl t ↦
      let y = first_here n o outs w k p t e in
      (0, omega (arith, y.0), o, record { within = omega arith; here = refl; first = rw t refl; kind = y.1 })
  | inr t ↦
      let h : place_from (n + 1) outs w k ≡ Some p = rw t at e in
      let y = placed (n + 1) outs w k p h in
      (suc y.0, omega (arith, y.1), y.2, record { within = omega (arith, y.3.within); here = y.3.here; first = rw t y.3.first; kind = y.3.kind })
]

pub unplaced : (n : ℕ) (outs : List Outside) (w : List ℕ) (F : List Feature) (a : ℕ) (f : Feature) → place_from n outs w f.shape.kind ≡ None
    → breaks_by (first_named outs w) F a f ≡ false
unplaced n [] w F a f e = refl
unplaced n (o ∷ outs) w F a f e = elim (bool_cases (bytes_eq o.word w)) [
  | inl t ↦ elim (bool_cases (same_kind f.shape.kind o.kind)) [
    | inl s ↦ let h : Some n ≡ None = rw (t, s) at e in absurd cc
    | inr s ↦ rw (t, s) refl
  ]
  | inr t ↦ let h : place_from (n + 1) outs w f.shape.kind ≡ None = rw t at e in rw t (unplaced (n + 1) outs w F a f h)
]

-- of objects
pub first_object : {A : Type 0} (seen : A → Outside) (xs : List A) (w : List ℕ) (k : Kind) (p : ℕ) (x : A) → place_of (map seen xs) w k ≡ Some p
    → x ≡ get_or xs p x → IsFirst (map seen xs) w k p (seen x)
first_object seen xs w k p x e h =
    let outs = map seen xs in
    let y = placed 0 outs w k p e in
    let j : y.0 ≡ p = omega (arith, y.1) in
    let l : y.0 < length xs = omega (arith, y.3.within, length-map xs seen) in
    let there : get_or xs y.0 x ≡ x = rw j (sym h) in
    let is : y.2 ≡ seen x = y.3.here ∙ (get_or-map seen xs y.0 x y.2 l ∙ ap seen there) in
    subst (λ n. IsFirst outs w k n (seen x)) j (subst (λ o. IsFirst outs w k y.0 o) is y.3)

pub place_within : {A : Type 0} (seen : A → Outside) (xs : List A) (w : List ℕ) (k : Kind) (p : ℕ) → place_of (map seen xs) w k ≡ Some p
    → p < length xs
place_within seen xs w k p e =
    let y = placed 0 (map seen xs) w k p e in
    omega (arith, y.1, y.3.within, length-map xs seen)

pub breaks_there : (outs : List Outside) (w : List ℕ) (F : List Feature) (a : ℕ) (f : Feature) (p : ℕ) (o : Outside)
    → IsFirst outs w f.shape.kind p o → o.breaks F a ≡ breaks_by (first_named outs w) F a f
breaks_there outs w F a f p o y = rw (y.first, y.kind) refl

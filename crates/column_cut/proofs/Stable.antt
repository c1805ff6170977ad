-- Two stable sorts of one list by one order are the same list.
use Rattle.std.proofs.Common.{◌≡◌, ℕ, suc, ◌<◌, arith, sym, subst, ap, refl, ◌⊎◌, inl, inr, ◌∙◌, Bool, true, false, not, cond, List, []}
use Rattle.std.proofs.Common.{◌∷◌, length, get_or}
use Rattle.std.specs.Cmp.{IsStrictWeakOrder}
use Rattle.std.specs.List.{filter}
use Rattle.std.specs.List.Sorted.{IsSortedBy, IsStableBy, ties}
use Rattle.std.proofs.lemmas.List.Sorted.{sorted_far}
use Rattle.std.proofs.lemmas.Bool.{false≢true, and_parts, and_from, not-true, not_from_false, cases_Bool}
use Rattle.plane_terms.specs.Lists.{Every, EveryPair}
use Rattle.plane_terms.proofs.ListLemmas.{every_map}
use Rattle.plane_terms.proofs.ListLemmas.{IsAmong, every_among}

member_filter : {X : Type 0} (p : X → Bool) (xs : List X) (z : X) → IsAmong z (filter p xs) → IsAmong z xs
member_filter p [] z m = m
member_filter p (x ∷ xs) z m = by_cases (p x) (member_filter p xs z) m
  where
    by_cases : (b : Bool) → (IsAmong z (filter p xs) → IsAmong z xs) → IsAmong z (cond b (x ∷ filter p xs) (filter p xs))
        → (z ≡ x) ⊎ IsAmong z xs
    by_cases true f (inl e) = inl e
    by_cases true f (inr m) = inr (f m)
    by_cases false f m = inr (f m)

module _ {X : Type 0} (lt : X → X → Bool) (o : IsStrictWeakOrder lt) where
  irrefl : (x : X) → lt x x ≡ false
  irrefl x = elim (cases_Bool (lt x x)) [ inl e ↦ o.one_way x x e | inr e ↦ e ]

  -- each is no less than those before it
  abbrev pub Rises : List X → Type 0
  Rises xs = EveryPair (λ a b. lt b a ≡ false) xs

  all_from_places : (P : X → Type 0) (xs : List X) → ((k : ℕ) (d : X) → k < length xs → P (get_or xs k d)) → Every P xs
  all_from_places P [] f = tt
  all_from_places P (x ∷ xs) f = (f 0 x (omega arith), all_from_places P xs (λ k d h. f (suc k) d (omega arith)))

  rises_from_places : (xs : List X) → ((i j : ℕ) (d : X) → i < j → j < length xs → lt (get_or xs j d) (get_or xs i d) ≡ false) → Rises xs
  rises_from_places [] f = tt
  rises_from_places (x ∷ xs) f = (
    all_from_places (λ b. lt b x ≡ false) xs
        (λ k d h. f 0 (suc k) d (omega arith) (omega arith)),
    rises_from_places xs
        (λ i j d h k. f (suc i) (suc j) d (omega arith) (omega arith)),
  )

  pub rises_from_sorted : (xs : List X) → IsSortedBy lt xs → Rises xs
  rises_from_sorted xs up = rises_from_places xs (λ i j d h k. sorted_far lt o xs up i j d (omega arith) k)

  tie : (x y : X) → lt x y ≡ false → lt y x ≡ false → ties lt x y ≡ true
  tie x y e f = and_from (not (lt x y)) (not (lt y x)) (not_from_false (lt x y) e) (not_from_false (lt y x) f)

  kept : (p : X → Bool) (x : X) (xs : List X) → p x ≡ true → filter p (x ∷ xs) ≡ x ∷ filter p xs
  kept p x xs e = rw e refl

  no_less : (x y : X) (xs ys : List X) → Every (λ b. lt b x ≡ false) xs → filter (ties lt y) (x ∷ xs) ≡ filter (ties lt y) (y ∷ ys)
      → lt y x ≡ false
  no_less x y xs ys r e =
      let m : IsAmong y (filter (ties lt y) (x ∷ xs)) = subst (IsAmong y)
      (sym (e ∙ kept (ties lt y) y ys (tie y y (irrefl y) (irrefl y)))) (inl refl) in
      elim (member_filter (ties lt y) (x ∷ xs) y m) [
        | inl k ↦ subst (λ z. lt y z ≡ false) k (irrefl y)
        | inr k ↦ every_among (λ b. lt b x
            ≡ false) xs r y k
      ]

  tail_same : (p : X → Bool) (x : X) (xs ys : List X) → filter p (x ∷ xs) ≡ filter p (x ∷ ys) → filter p xs ≡ filter p ys
  tail_same p x xs ys e = by_cases (p x) e
    where
      by_cases : (b : Bool) → cond b (x ∷ filter p xs) (filter p xs) ≡ cond b (x ∷ filter p ys) (filter p ys) → filter p xs ≡ filter p ys
      by_cases true e = cc
      by_cases false e = e

  head_of : (x y : X) (xs ys : List X) → x ∷ xs ≡ y ∷ ys → x ≡ y
  head_of x y xs ys e = cc

  empty_not : (y : X) (ys : List X) → [] ≡ filter (ties lt y) (y ∷ ys) → ⊥
  empty_not y ys e = let k = e ∙ kept (ties lt y) y ys (tie y y (irrefl y) (irrefl y)) in cc

  pub same_stable : (xs ys : List X) → Rises xs → Rises ys → ((z : X) → filter (ties lt z) xs ≡ filter (ties lt z) ys) → xs ≡ ys
  same_stable [] [] f g h = refl
  same_stable [] (y ∷ ys) f g h = absurd (empty_not y ys (h y))
  same_stable (x ∷ xs) [] f g h = absurd (empty_not x xs (sym (h x)))
  same_stable (x ∷ xs) (y ∷ ys) f g h =
      let yx : lt y x ≡ false = no_less x y xs ys f.0 (h y) in
      let xy : lt x y ≡ false = no_less y x ys xs g.0 (sym (h x)) in
      let e : x ≡ y = head_of x y (filter (ties lt x) xs) (filter (ties lt x) ys)
      (sym (kept (ties lt x) x xs (tie x x (irrefl x) (irrefl x))) ∙ h x ∙ kept (ties lt x) y ys (tie x y xy yx)) in
      let t = same_stable xs ys f.1 g.1
      (λ z. tail_same (ties lt z) x xs ys (subst (λ w. filter (ties lt z) (x ∷ xs) ≡ filter (ties lt z) (w ∷ ys)) (sym e) (h z))) in
      ap (λ a. a ∷ xs) e ∙ ap (λ zs. y ∷ zs) t

  -- ---- an insertion sort
  abbrev pub put_in : X → List X → List X
  put_in r [] = r ∷ []
  put_in r (t ∷ ts) = cond (lt t r) (t ∷ put_in r ts) (r ∷ t ∷ ts)

  abbrev pub put_all : List X → List X
  put_all [] = []
  put_all (r ∷ rs) = put_in r (put_all rs)

  all-put_in : (P : X → Type 0) (r : X) (ts : List X) → P r → Every P ts → Every P (put_in r ts)
  all-put_in P r [] h k = (h, tt)
  all-put_in P r (t ∷ ts) h k = by_cases (lt t r) (all-put_in P r ts h k.1)
    where
      by_cases : (b : Bool) → Every P (put_in r ts) → Every P (cond b (t ∷ put_in r ts) (r ∷ t ∷ ts))
      by_cases true m = (k.0, m)
      by_cases false m = (h, k)

  rises-put_in : (r : X) (ts : List X) → Rises ts → Rises (put_in r ts)
  rises-put_in r [] h = (tt, tt)
  rises-put_in r (t ∷ ts) h = by_cases (lt t r) refl (rises-put_in r ts h.1)
    where
      by_cases : (b : Bool) → lt t r ≡ b → Rises (put_in r ts) → Rises (cond b (t ∷ put_in r ts) (r ∷ t ∷ ts))
      by_cases true e m = (all-put_in (λ b. lt b t ≡ false) r ts (o.one_way t r e) h.0, m)
      by_cases false e m = ((e, every_map (λ b. lt b t ≡ false) (λ b. lt b r ≡ false) (λ b k. o.chain b t r k e) ts h.0), h)

  stable-put_in : (z r : X) (ts : List X) → filter (ties lt z) (put_in r ts) ≡ filter (ties lt z) (r ∷ ts)
  stable-put_in z r [] = refl
  stable-put_in z r (t ∷ ts) = by_cases (lt t r) refl (stable-put_in z r ts)
    where
      apart : ties lt z t ≡ true → ties lt z r ≡ true → lt t r ≡ true → ⊥
      apart a b e =
          let f = and_parts (not (lt z t)) (not (lt t z)) a in
          let g = and_parts (not (lt z r)) (not (lt r z)) b in
          let k = o.chain t z r (not-true (lt t z) f.1) (not-true (lt z r) g.0) in
          false≢true (sym k ∙ e)

      swap : (a b : Bool) → ties lt z t ≡ a → ties lt z r ≡ b → lt t r ≡ true
          → cond a (t ∷ cond b (r ∷ filter (ties lt z) ts) (filter (ties lt z) ts))
          (cond b (r ∷ filter (ties lt z) ts) (filter (ties lt z) ts))
          ≡ cond b (r ∷ cond a (t ∷ filter (ties lt z) ts) (filter (ties lt z) ts))
          (cond a (t ∷ filter (ties lt z) ts) (filter (ties lt z) ts))
      swap true true p q e = absurd (apart p q e)
      swap true false p q e = refl
      swap false true p q e = refl
      swap false false p q e = refl

      by_cases : (b : Bool) → lt t r ≡ b → filter (ties lt z) (put_in r ts) ≡ filter (ties lt z) (r ∷ ts)
          → filter (ties lt z) (cond b (t ∷ put_in r ts) (r ∷ t ∷ ts)) ≡ filter (ties lt z) (r ∷ t ∷ ts)
      by_cases true e h = ap (λ us. cond (ties lt z t) (t ∷ us) us) h ∙ swap (ties lt z t) (ties lt z r) refl refl e
      by_cases false e h = refl

  rises-put_all : (rs : List X) → Rises (put_all rs)
  rises-put_all [] = tt
  rises-put_all (r ∷ rs) = rises-put_in r (put_all rs) (rises-put_all rs)

  stable-put_all : (z : X) (rs : List X) → filter (ties lt z) (put_all rs) ≡ filter (ties lt z) rs
  stable-put_all z [] = refl
  stable-put_all z (r ∷ rs) = stable-put_in z r (put_all rs) ∙ ap (λ us. cond (ties lt z r) (r ∷ us) us) (stable-put_all z rs)

  -- what a stable sort leaves is what the insertion sort gives
  pub sorted_is_put_all : (rs us : List X) → IsSortedBy lt us → IsStableBy lt rs us → us ≡ put_all rs
  sorted_is_put_all rs us up st = same_stable us (put_all rs) (rises_from_sorted us up) (rises-put_all rs) (λ z. st z
      ∙ sym (stable-put_all z rs))

-- What is told of rectangles that pass a test, added part by part.
use Rattle.std.proofs.Common.{◌≡◌, ◌⊎◌, inl, inr, refl, sym, ap, ◌∙◌, subst, ℕ, ◌+◌, ◌<◌, Bool, true, false, cond, List, [], ◌∷◌, ◌++◌, Contains, take, length, get_or, arith}
use Rattle.std.specs.Prelude.{◌↔◌}
use Rattle.std.proofs.lemmas.Bool.{false≢true}
use Rattle.std.proofs.lemmas.List.{take_more, append-nil}
use Rattle.std.proofs.lemmas.List.Elements.{Contains-append_left, Contains-append_right, Contains-append_cases, Contains-push, Contains-push_cases}
use Rattle.plane_terms.specs.Rectangle.{Rectangle}
use Rattle.grid_index.specs.declared.placed.Placed.{Placed}
use Rattle.grid_index.specs.Near.{IsMet, Adds}

pub contains_none : {A : Type 0} (x : A) → Contains [] x → ⊥
contains_none x h = absurd (omega (arith, h.1))

pub met_too : {A : Type 0} (f : Placed → A) (t : Rectangle → Bool) (P Q : Placed → Type 0) (x : A) → ((p : Placed) → P p → Q p) → IsMet f t P x → IsMet f t Q x
met_too f t P Q x h m = (m.0, h m.0 m.1, m.2, m.3)

-- nothing is added
pub adds_none : {A : Type 0} (f : Placed → A) (t : Rectangle → Bool) (P : Placed → Type 0) (xs : List A) → ((p : Placed) → P p → ⊥) → Adds f t P xs xs
adds_none f t P xs n = λ x. ((λ h. inl h), (λ h. elim h [ inl k ↦ k | inr m ↦ absurd (n m.0 m.1) ]))

-- first some, then others
pub adds_both : {A : Type 0} (f : Placed → A) (t : Rectangle → Bool) (P Q R : Placed → Type 0) (xs ys zs : List A) → Adds f t P xs ys → Adds f t Q ys zs
    → ((p : Placed) → R p → P p ⊎ Q p) → ((p : Placed) → P p → R p) → ((p : Placed) → Q p → R p) → Adds f t R xs zs
adds_both f t P Q R xs ys zs first second either left right = λ x. (
  (λ h. elim ((second x).0 h) [
    | inl k ↦ elim ((first x).0 k) [ inl n ↦ inl n | inr m ↦ inr (met_too f t P R x left m) ]
    | inr m ↦ inr (met_too f t Q R x right m)
  ]),
  (λ h. elim h [
    | inl n ↦ (second x).1 (inl ((first x).1 (inl n)))
    | inr m ↦ elim (either m.0 m.1) [
      | inl p ↦ (second x).1 (inl ((first x).1 (inr (m.0, p, m.2, m.3))))
      | inr q ↦ (second x).1 (inr (m.0, q, m.2, m.3))
    ]
  ]),
)

-- those of which Q holds in place of those of which P holds, where the test passes no others
pub adds_same : {A : Type 0} (f : Placed → A) (t : Rectangle → Bool) (P Q : Placed → Type 0) (xs ys : List A) → Adds f t P xs ys → ((p : Placed) → P p → Q p)
    → ((p : Placed) → Q p → t p.rect ≡ true → P p) → Adds f t Q xs ys
adds_same f t P Q xs ys adds to from = λ x. (
  (λ h. elim ((adds x).0 h) [ inl n ↦ inl n | inr m ↦ inr (met_too f t P Q x to m) ]),
  (λ h. elim h [ inl n ↦ (adds x).1 (inl n) | inr m ↦ (adds x).1 (inr (m.0, from m.0 m.1 m.3, m.2, m.3)) ]),
)

-- one, where it passes the test
pub adds_one : {A : Type 0} (f : Placed → A) (t : Rectangle → Bool) (p : Placed) (xs ys : List A) → ys ≡ xs ++ cond (t p.rect) (f p ∷ []) []
    → Adds f t (λ q. q ≡ p) xs ys
adds_one {A} f t p xs ys e = λ x. ((λ h. to x (t p.rect) refl (subst (λ l. Contains l x) e h)), (λ h. subst (λ l. Contains l x) (sym e) (from x (t p.rect) refl h)))
  where
    to : (x : A) (b : Bool) → t p.rect ≡ b → Contains (xs ++ cond b (f p ∷ []) []) x → Contains xs x ⊎ IsMet f t (λ q. q ≡ p) x
    to x true u h = elim (Contains-push_cases xs (f p) x h) [ inl k ↦ inl k | inr s ↦ inr (p, refl, s, u) ]
    to x false u h = inl (subst (λ l. Contains l x) (append-nil xs) h)

    from : (x : A) (b : Bool) → t p.rect ≡ b → Contains xs x ⊎ IsMet f t (λ q. q ≡ p) x → Contains (xs ++ cond b (f p ∷ []) []) x
    from x b u (inl k) = Contains-append_left xs (cond b (f p ∷ []) []) x k
    from x true u (inr m) = subst (λ y. Contains (xs ++ f p ∷ []) y) (sym (ap f m.1) ∙ m.2) (Contains-push xs (f p))
    from x false u (inr m) = absurd (false≢true (sym u ∙ (sym (ap (λ (q : Placed). t q.rect) m.1) ∙ m.3)))

-- one more of a list
pub adds_more : {A : Type 0} (f : Placed → A) (t : Rectangle → Bool) (ps : List Placed) (i : ℕ) (p : Placed) (xs ys zs : List A) → i < length ps → p ≡ get_or ps i p
    → Adds f t (Contains (take i ps)) xs ys → zs ≡ ys ++ cond (t p.rect) (f p ∷ []) []
    → Adds f t (Contains (take (i + 1) ps)) xs zs
adds_more f t ps i p xs ys zs l is so_far e =
    let more : take (i + 1) ps ≡ take i ps ++ p ∷ [] = take_more ps i p l ∙ ap (λ q. take i ps ++ q ∷ []) (sym is) in
    subst (λ qs. Adds f t (Contains qs) xs zs) (sym more)
    (adds_both f t (Contains (take i ps)) (λ q. q ≡ p) (Contains (take i ps ++ p ∷ [])) xs ys zs so_far (adds_one f t p ys zs e)
    (λ q h. elim (Contains-push_cases (take i ps) p q h) [ inl k ↦ inl k | inr s ↦ inr (sym s) ])
    (λ q h. Contains-append_left (take i ps) (p ∷ []) q h)
    (λ q s. subst (λ o. Contains (take i ps ++ p ∷ []) o) (sym s) (Contains-push (take i ps) p)))

-- what was added to nothing
pub all_near : {A : Type 0} (f : Placed → A) (t : Rectangle → Bool) (ps : List Placed) (xs : List A) → Adds f t (Contains ps) [] xs
    → (x : A) → Contains xs x ↔ IsMet f t (Contains ps) x
all_near f t ps xs adds = λ x. (
  (λ h. elim ((adds x).0 h) [ inl k ↦ absurd (contains_none x k) | inr m ↦ m ]),
  (λ h. (adds x).1 (inr h)),
)

-- and then held once each, or otherwise as often
pub once_near : {A : Type 0} (f : Placed → A) (t : Rectangle → Bool) (ps : List Placed) (xs ys : List A) → Adds f t (Contains ps) [] xs
    → ((x : A) → Contains ys x ↔ Contains xs x) → (x : A) → Contains ys x ↔ IsMet f t (Contains ps) x
once_near f t ps xs ys adds same = λ x. (
  (λ h. (all_near f t ps xs adds x).0 ((same x).0 h)),
  (λ h. (same x).1 ((all_near f t ps xs adds x).1 h)),
)

-- what two lists have is added
pub adds_joined : {A : Type 0} (f : Placed → A) (t : Rectangle → Bool) (ps qs : List Placed) (xs ys zs : List A) → Adds f t (Contains ps) xs ys
    → Adds f t (Contains qs) ys zs → Adds f t (Contains (ps ++ qs)) xs zs
adds_joined f t ps qs xs ys zs first second = adds_both f t (Contains ps) (Contains qs) (Contains (ps ++ qs)) xs ys zs first second
    (λ p h. Contains-append_cases ps qs p h)
    (λ p h. Contains-append_left ps qs p h)
    (λ p h. Contains-append_right ps qs p h)

-- What a list of placed rectangles contains, one more and one less.
use Rattle.std.proofs.Common.{◌≡◌, ◌≢◌, inl, inr, refl, sym, ap, ◌∙◌, subst, ℕ, ◌+◌, ◌<◌, Bool, true, false, not, cond, List, [], ◌∷◌, ◌++◌, Contains, take, length, get_or}
use Rattle.std.specs.List.{filter}
use Rattle.std.proofs.lemmas.Bool.{false≢true}
use Rattle.std.proofs.lemmas.Bool.Decides.{Decides-and, Decides-eqb, Decides-int_eq}
use Rattle.std.proofs.lemmas.List.{take_more}
use Rattle.std.proofs.lemmas.List.Elements.{Contains-append_left, Contains-push, Contains-push_cases}
use Rattle.plane_terms.proofs.ListLemmas.{IsAmong, among_at, contains_among}
use Rattle.grid_index.specs.declared.placed.Placed.{Placed}
use Rattle.grid_index.specs.Near.{HoldsSame, Gains, Loses, is_placed}

pub among : {A : Type 0} (xs : List A) (x : A) → Contains xs x → IsAmong x xs
among xs x h = among_at xs h.0 x h.1 h.2

-- ---- a filter
pub filtered_from : {A : Type 0} (test : A → Bool) (xs : List A) (x : A) → IsAmong x (filter test xs) → IsAmong x xs × (test x ≡ true)
filtered_from test [] x m = absurd m
filtered_from {A} test (y ∷ ys) x m = pick (test y) refl m (filtered_from test ys x)
  where
    pick : (b : Bool) → test y ≡ b → IsAmong x (cond b (y ∷ filter test ys) (filter test ys))
        → (IsAmong x (filter test ys) → IsAmong x ys × (test x ≡ true)) → IsAmong x (y ∷ ys) × (test x ≡ true)
    pick true e (inl k) rest = (inl k, ap test k ∙ e)
    pick true e (inr k) rest = let t = rest k in (inr t.0, t.1)
    pick false e k rest = let t = rest k in (inr t.0, t.1)

pub filtered_to : {A : Type 0} (test : A → Bool) (xs : List A) (x : A) → IsAmong x xs → test x ≡ true → IsAmong x (filter test xs)
filtered_to test [] x m t = absurd m
filtered_to {A} test (y ∷ ys) x m t = pick (test y) refl m (λ k. filtered_to test ys x k t)
  where
    pick : (b : Bool) → test y ≡ b → IsAmong x (y ∷ ys) → (IsAmong x ys → IsAmong x (filter test ys))
        → IsAmong x (cond b (y ∷ filter test ys) (filter test ys))
    pick true e (inl k) rest = inl k
    pick true e (inr k) rest = inr (rest k)
    pick false e (inl k) rest = absurd (false≢true (sym e ∙ (sym (ap test k) ∙ t)))
    pick false e (inr k) rest = rest k

-- ---- the test of a placed rectangle
pub placed_is : (p q : Placed) → is_placed p q ≡ true → q ≡ p
placed_is p q t =
    let k = (Decides-and _ _ (Decides-eqb p.handle q.handle)
    (Decides-and _ _ (Decides-int_eq p.rect.x0 q.rect.x0)
    (Decides-and _ _ (Decides-int_eq p.rect.y0 q.rect.y0)
    (Decides-and _ _ (Decides-int_eq p.rect.x1 q.rect.x1) (Decides-int_eq p.rect.y1 q.rect.y1))))).0 t in
    let rect : p.rect ≡ q.rect = λ i. record { x0 = k.1.0 i; y0 = k.1.1.0 i; x1 = k.1.1.1.0 i; y1 = k.1.1.1.1 i } in
    let same : p ≡ q = λ i. record { rect = rect i; handle = k.0 i } in
    sym same

pub is_placed_self : (p : Placed) → is_placed p p ≡ true
is_placed_self p =
    (Decides-and _ _ (Decides-eqb p.handle p.handle)
    (Decides-and _ _ (Decides-int_eq p.rect.x0 p.rect.x0)
    (Decides-and _ _ (Decides-int_eq p.rect.y0 p.rect.y0)
    (Decides-and _ _ (Decides-int_eq p.rect.x1 p.rect.x1) (Decides-int_eq p.rect.y1 p.rect.y1))))).1 (refl, (refl, (refl, (refl, refl))))

-- ---- one less
pub lost : (ps qs : List Placed) (p : Placed) → qs ≡ filter (λ q. not (is_placed p q)) ps → Loses ps qs p
lost ps qs p e = λ q. (
  (λ h. let k = filtered_from (λ s. not (is_placed p s)) ps q (among _ q (subst (λ l. Contains l q) e h)) in (contains_among ps q k.0, apart q k.1)),
  (λ h. subst (λ l. Contains l q) (sym e) (contains_among _ q (filtered_to (λ s. not (is_placed p s)) ps q (among ps q h.0) (other q h.1)))),
)
  where
    apart : (q : Placed) → not (is_placed p q) ≡ true → q ≢ p
    apart q t s = false≢true (sym (ap not (subst (λ o. is_placed p o ≡ true) (sym s) (is_placed_self p))) ∙ t)

    other : (q : Placed) → q ≢ p → not (is_placed p q) ≡ true
    other q n = at (is_placed p q) refl
      where
        at : (b : Bool) → is_placed p q ≡ b → not b ≡ true
        at true t = absurd (n (placed_is p q t))
        at false t = refl

-- ---- one more
pub gained : (ps qs : List Placed) (p : Placed) → qs ≡ ps ++ p ∷ [] → Gains ps qs p
gained ps qs p e = λ q. (
  (λ h. elim (Contains-push_cases ps p q (subst (λ l. Contains l q) e h)) [ inl k ↦ inl k | inr s ↦ inr (sym s) ]),
  (λ h. subst (λ l. Contains l q) (sym e) (elim h [
    | inl k ↦ Contains-append_left ps (p ∷ []) q k
    | inr s ↦ subst (λ o. Contains (ps ++ p ∷ []) o) (sym s) (Contains-push ps p)
  ])),
)

pub same_held : (ps qs : List Placed) → qs ≡ ps → HoldsSame ps qs
same_held ps qs e = λ q. ((λ h. subst (λ l. Contains l q) e h), (λ h. subst (λ l. Contains l q) (sym e) h))

-- one more of a list
pub same_more : (ps : List Placed) (i : ℕ) (p : Placed) (qs ss : List Placed) → i < length ps → p ≡ get_or ps i p → HoldsSame (take i ps) qs → Gains qs ss p
    → HoldsSame (take (i + 1) ps) ss
same_more ps i p qs ss l is same gains =
    let more : take (i + 1) ps ≡ take i ps ++ p ∷ [] = take_more ps i p l ∙ ap (λ q. take i ps ++ q ∷ []) (sym is) in
    subst (λ ls. HoldsSame ls ss) (sym more) (λ q. (
      (λ h. elim ((gains q).0 h) [
        | inl k ↦ Contains-append_left (take i ps) (p ∷ []) q ((same q).0 k)
        | inr e ↦ subst (λ o. Contains (take i ps ++ p ∷ []) o) (sym e) (Contains-push (take i ps) p)
      ]),
      (λ h. elim (Contains-push_cases (take i ps) p q h) [
        | inl k ↦ (gains q).1 (inl ((same q).1 k))
        | inr e ↦ (gains q).1 (inr (sym e))
      ]),
    ))

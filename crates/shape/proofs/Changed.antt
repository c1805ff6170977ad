-- A list of which the first i elements were changed one by one, and two lists that were compared one by one.
--
-- Changed h f i now then     h sees of each of the first i elements of `now` what f makes of what h sees in `then`; the others stand
use Rattle.std.proofs.Common.{◌≡◌, ℕ, zero, suc, ◌+◌, ◌<◌, ◌≤◌, List, [], ◌∷◌, length, get_or, set, take, drop, ◌++◌, map, refl, sym, ap, ◌∙◌, arith, subst}
use Rattle.std.proofs.lemmas.List.{get_or-map, length-map, drop_all, append-nil, take_all}

abbrev pub Changed : {X Y : Type 0} → (X → Y) → (Y → Y) → ℕ → List X → List X → Type 0
Changed h f zero now then = now ≡ then
Changed h f (suc i) [] [] = Unit {0}
Changed h f (suc i) [] (y ∷ ys) = ⊥
Changed h f (suc i) (x ∷ xs) [] = ⊥
Changed h f (suc i) (x ∷ xs) (y ∷ ys) = (h x ≡ f (h y)) × Changed h f i xs ys

first_changed : {X Y : Type 0} (h : X → Y) (f : Y → Y) (v x : X) (xs ys : List X) → x ∷ xs ≡ ys → h v ≡ f (h x) → Changed h f 1 (v ∷ xs) ys
first_changed h f v x xs ys e k = subst (λ zs. Changed h f 1 (v ∷ xs) zs) e (k, refl)

changed_suc : {X Y : Type 0} (h : X → Y) (f : Y → Y) (i : ℕ) (xs ys : List X) (x v : X) → Changed h f i xs ys → i < length xs
    → x ≡ get_or xs i x → h v ≡ f (h x) → Changed h f (suc i) (set xs i v) ys
changed_suc h f i [] ys x v c l e k = absurd (omega (arith, l))
changed_suc h f zero (z ∷ zs) ys x v c l e k = first_changed h f v z zs ys c (k ∙ ap (λ u. f (h u)) e)
changed_suc h f (suc i) (z ∷ zs) [] x v c l e k = absurd c
changed_suc h f (suc i) (z ∷ zs) (y ∷ ys) x v c l e k = (c.0, changed_suc h f i zs ys x v c.1 (omega (arith, l)) e k)

pub changed_more : {X Y : Type 0} (h : X → Y) (f : Y → Y) (i : ℕ) (xs ys : List X) (x v : X) → Changed h f i xs ys → i < length xs
    → x ≡ get_or xs i x → h v ≡ f (h x) → Changed h f (i + 1) (set xs i v) ys
changed_more h f i xs ys x v c l e k =
    subst (λ (n : ℕ). Changed h f n (set xs i v) ys) {x = suc i} {y = i + 1} (omega arith) (changed_suc h f i xs ys x v c l e k)

pub changed_all : {X Y : Type 0} (h : X → Y) (f : Y → Y) (i : ℕ) (xs ys : List X) → Changed h f i xs ys → length xs ≤ i
    → map h xs ≡ map f (map h ys)
changed_all h f zero [] ys c l = ap (λ zs. map f (map h zs)) c
changed_all h f zero (x ∷ xs) ys c l = absurd (omega (arith, l))
changed_all h f (suc i) [] [] c l = refl
changed_all h f (suc i) [] (y ∷ ys) c l = absurd c
changed_all h f (suc i) (x ∷ xs) [] c l = absurd c
changed_all h f (suc i) (x ∷ xs) (y ∷ ys) c l =
    joined (h x) (f (h y)) (map h xs) (map f (map h ys)) c.0 (changed_all h f i xs ys c.1 (omega (arith, l)))
  where
    joined : {Y : Type 0} (a b : Y) (us vs : List Y) → a ≡ b → us ≡ vs → a ∷ us ≡ b ∷ vs
    joined a b us vs e k = rw (e, k) refl

-- ---- compared one by one
same_suc : {X Y : Type 0} (h : X → Y) (i : ℕ) (xs ys : List X) (x y : X) → i < length xs → i < length ys → x ≡ get_or xs i x
    → y ≡ get_or ys i y → h x ≡ h y → take i (map h xs) ≡ take i (map h ys) → take (suc i) (map h xs) ≡ take (suc i) (map h ys)
same_suc h i [] ys x y l m e k s t = absurd (omega (arith, l))
same_suc h i (z ∷ zs) [] x y l m e k s t = absurd (omega (arith, m))
same_suc h zero (z ∷ zs) (u ∷ us) x y l m e k s t = ap (λ v. v ∷ []) (ap h (sym e) ∙ s ∙ ap h k)
same_suc h (suc i) (z ∷ zs) (u ∷ us) x y l m e k s t =
    cons (heads t) (same_suc h i zs us x y (omega (arith, l)) (omega (arith, m)) e k s (tails t))
  where
    cons : {Y : Type 0} {a b : Y} {us vs : List Y} → a ≡ b → us ≡ vs → a ∷ us ≡ b ∷ vs
    cons e k = rw (e, k) refl

    heads : {Y : Type 0} {a b : Y} {us vs : List Y} → a ∷ us ≡ b ∷ vs → a ≡ b
    heads e = cc

    tails : {Y : Type 0} {a b : Y} {us vs : List Y} → a ∷ us ≡ b ∷ vs → us ≡ vs
    tails e = cc

pub same_more : {X Y : Type 0} (h : X → Y) (i : ℕ) (xs ys : List X) (x y : X) → i < length xs → i < length ys → x ≡ get_or xs i x
    → y ≡ get_or ys i y → h x ≡ h y → take i (map h xs) ≡ take i (map h ys) → take (i + 1) (map h xs) ≡ take (i + 1) (map h ys)
same_more h i xs ys x y l m e k s t =
    subst (λ (n : ℕ). take n (map h xs) ≡ take n (map h ys)) {x = suc i} {y = i + 1} (omega arith) (same_suc h i xs ys x y l m e k s t)

pub same_at : {X Y : Type 0} (h : X → Y) (i : ℕ) (xs ys : List X) (x y : X) → i < length xs → i < length ys → x ≡ get_or xs i x
    → y ≡ get_or ys i y → map h xs ≡ map h ys → h x ≡ h y
same_at h i xs ys x y l m e k s =
    ap h e ∙ sym (get_or-map h xs i x (h y) l) ∙ ap (λ zs. get_or zs i (h y)) s ∙ get_or-map h ys i y (h y) m ∙ ap h (sym k)

-- ---- a part of a vector that was written and put back
pub written : {X : Type 0} (n : ℕ) (new old : List X) → length new ≡ length old → n ≡ length old
    → take n (new ++ drop (length new) old) ≡ new
written n new old e k =
    ap (λ (rest : List _). take n (new ++ rest)) (drop_all (length new) old (omega (arith, e))) ∙ ap (λ xs. take n xs) (append-nil new)
    ∙ take_whole n new (omega (arith, e, k))
  where
    take_whole : {X : Type 0} (n : ℕ) (xs : List X) → length xs ≤ n → take n xs ≡ xs
    take_whole n xs h = take_all n xs h

pub lengths : {X Y : Type 0} (h : X → Y) (f : Y → Y) (new now old : List X) → map h new ≡ map f (map h now) → now ≡ old
    → length new ≡ length old
lengths h f new now old e k =
    omega (arith, ap (λ ys. length ys) e, length-map new h, length-map (map h now) f, length-map now h, ap (λ xs. length xs) k)

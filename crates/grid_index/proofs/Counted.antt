-- Counts of what two lists have together.
use Rattle.std.proofs.Common.{◌≡◌, inl, inr, refl, sym, ap, ◌∙◌, subst, ℕ, ◌+◌, ◌≤◌, Bool, true, false, cond, ◌||◌, List, [], ◌∷◌, ◌++◌, map, length, get_or, arith}
use Rattle.std.specs.List.{count_by, list_any}
use Rattle.std.specs.Set.{distinct_count, is_member, unique_keys}
use Rattle.std.proofs.lemmas.List.Elements.{Contains-get_or}
use Rattle.std.proofs.lemmas.List.Folds.{list_any-append, list_any_none, list_any-from_Any, Any-from_list_any}
use Rattle.std.proofs.lemmas.List.Sums.{sum_by-append, sum_by-cons, sum_by-le-sum_by}
use Rattle.plane_terms.proofs.ListLemmas.{IsAmong, among_at, contains_among}
use Rattle.grid_index.proofs.Members.{among}

-- ---- a test of a list
pub any_none : {A : Type 0} (test : A → Bool) (xs : List A) → ((x : A) → IsAmong x xs → test x ≡ false) → list_any test xs ≡ false
any_none test xs h = list_any_none test xs (λ k d l. h (get_or xs k d) (among xs (get_or xs k d) (Contains-get_or xs k d l)))

pub any_among : {A : Type 0} (test : A → Bool) (xs : List A) (x : A) → IsAmong x xs → test x ≡ true → list_any test xs ≡ true
any_among test xs x m t = let c = contains_among xs x m in list_any-from_Any test xs (c.0, x, c.1, c.2, t)

-- some element passes the test
pub any_found : {A : Type 0} (test : A → Bool) (xs : List A) → list_any test xs ≡ true → (x : A) × IsAmong x xs × (test x ≡ true)
any_found test xs t = let f = Any-from_list_any test xs t in (f.1, among_at xs f.0 f.1 f.2 f.3, f.4)

any_left : {A : Type 0} (test : A → Bool) (xs ys : List A) → ((y : A) → IsAmong y ys → test y ≡ false) → list_any test (xs ++ ys) ≡ list_any test xs
any_left test xs ys h = list_any-append test xs ys ∙ (ap (λ b. list_any test xs || b) (any_none test ys h) ∙ or_false (list_any test xs))
  where
    or_false : (b : Bool) → (b || false) ≡ b
    or_false true = refl
    or_false false = refl

-- ---- how many there are, where those that are equal count once
kept : {A : Type 0} (x : A) (b : Bool) (us vs : List A) (n : ℕ) → length us ≡ length vs + n → length (cond b us (x ∷ us)) ≡ length (cond b vs (x ∷ vs)) + n
kept x true us vs n e = e
kept x false us vs n e = omega arith

pub distinct_joined : {A : Type 0} (eq : A → A → Bool) (xs ys : List A) → ((x y : A) → IsAmong x xs → IsAmong y ys → eq x y ≡ false)
    → distinct_count eq (xs ++ ys) ≡ distinct_count eq xs + distinct_count eq ys
distinct_joined eq [] ys h = omega arith
distinct_joined eq (x ∷ xs) ys h =
    ap (λ b. length (cond b (unique_keys eq (xs ++ ys)) (x ∷ unique_keys eq (xs ++ ys)))) (any_left (eq x) xs ys (λ y m. h x y (inl refl) m))
    ∙ kept x (is_member eq xs x) (unique_keys eq (xs ++ ys)) (unique_keys eq xs) (distinct_count eq ys)
    (distinct_joined eq xs ys (λ z y m n. h z y (inr m) n))

pub distinct_some : {A : Type 0} (eq : A → A → Bool) (x : A) (xs : List A) → IsAmong x xs → 1 ≤ distinct_count eq xs
distinct_some eq x [] m = absurd m
distinct_some {A} eq x (y ∷ ys) m = first y ys
  where
    at : (b : Bool) (z : A) (us : List A) → 1 ≤ length us → 1 ≤ length (cond b us (z ∷ us))
    at true z us h = h
    at false z us h = omega arith

    first : (y : A) (ys : List A) → 1 ≤ distinct_count eq (y ∷ ys)
    first y [] = omega arith
    first y (z ∷ zs) = at (is_member eq (z ∷ zs) y) y (unique_keys eq (z ∷ zs)) (first z zs)

-- ---- what a list is made of
pub among_map : {A B : Type 0} (f : A → B) (xs : List A) (y : B) → IsAmong y (map f xs) → (x : A) × IsAmong x xs × (f x ≡ y)
among_map f [] y m = absurd m
among_map f (x ∷ xs) y (inl e) = (x, inl refl, sym e)
among_map f (x ∷ xs) y (inr m) = let k = among_map f xs y m in (k.0, inr k.1, k.2)

pub map_among : {A B : Type 0} (f : A → B) (xs : List A) (x : A) → IsAmong x xs → IsAmong (f x) (map f xs)
map_among f [] x m = absurd m
map_among f (y ∷ ys) x (inl e) = inl (ap f e)
map_among f (y ∷ ys) x (inr m) = inr (map_among f ys x m)

-- ---- how many pass a test
pub count_more : {A : Type 0} (p q : A → Bool) → ((x : A) → p x ≡ true → q x ≡ true) → (xs : List A) → count_by p xs ≤ count_by q xs
count_more p q h [] = omega arith
count_more {A} p q h xs = sum_by-le-sum_by (λ x. cond (p x) 1 0) (λ x. cond (q x) 1 0) xs (λ x. one (p x) (q x) (h x))
  where
    one : (b c : Bool) → (b ≡ true → c ≡ true) → cond b 1 0 ≤ cond c 1 0
    one true c h = subst (λ d. 1 ≤ cond d 1 0) (sym (h refl)) (omega arith)
    one false c h = omega arith

pub count_joined : {A : Type 0} (p : A → Bool) (xs ys : List A) → count_by p (xs ++ ys) ≡ count_by p xs + count_by p ys
count_joined p xs ys = sum_by-append (λ x. cond (p x) 1 0) xs ys

pub count_all : {A : Type 0} (p : A → Bool) (xs : List A) → ((x : A) → IsAmong x xs → p x ≡ true) → count_by p xs ≡ length xs
count_all p [] h = refl
count_all p (x ∷ xs) h =
    let c = count_all p xs (λ y m. h y (inr m)) in
    let e : cond {A = ℕ} (p x) 1 0 ≡ 1 = ap (λ b. cond {A = ℕ} b 1 0) (h x (inl refl)) in
    omega (arith, sum_by-cons (λ y. cond (p y) 1 0) x xs)

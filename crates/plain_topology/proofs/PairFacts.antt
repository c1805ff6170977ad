-- The partners of a point, and the pairs that break the rule, as loops gather them.
use Rattle.std.proofs.Common.{◌≡◌, ◌↔◌, ◌⊎◌, inl, inr, ℕ, zero, suc, ◌+◌, ◌<◌, List, [], ◌∷◌, ◌++◌, map, length, get_or, take, drop, arith}
use Rattle.std.proofs.Common.{refl, sym, ap, ◌∙◌, subst, Some, None, Result, Ok, Err, IfOk}
use Rattle.std.specs.List.{All, Contains}
use Rattle.std.proofs.lemmas.List.Elements.{All-nil, All-push, All-append, All-map, All-weaker, All-contains, recursion_from_All}
use Rattle.std.proofs.lemmas.List.Elements.{Contains-push, Contains-push_cases, Contains-append_left, Contains-append_right}
use Rattle.std.proofs.lemmas.List.Elements.{Contains-get_or}
use Rattle.std.proofs.lemmas.List.{take_more, drop_more}
use Rattle.plane_terms.specs.Lists.{Every, EveryPair}
use Rattle.plane_terms.specs.Point.{Place, Point, IsAt, point_at}
use Rattle.plane_terms.proofs.ListLemmas.{every_append}
use Rattle.topology_terms.specs.Feature.{Feature, feature_at, place, IsAscending}
use Rattle.topology_terms.specs.Broken.{BrokenAt}
use Rattle.plain_topology.specs.Plain.{feature_of, features_of, row_of, Breaks, AreRising, IsPairBelow, AreAscending}
use Rattle.plain_topology.specs.declared.points.PlainPoint.{PlainPoint}
use Rattle.plain_topology.proofs.PointFacts.{broken_partner, broken_subject, nowhere}
use Rattle.plain_topology.proofs.HeadlineFacts.{live_point, at_itself}

-- ---- lists in order
pub pairs_append : {A : Type 0} (R : A → A → Type 0) (xs ys : List A) → EveryPair R xs → EveryPair R ys → Every (λ x. Every (R x) ys) xs
    → EveryPair R (xs ++ ys)
pairs_append R [] ys h k m = k
pairs_append R (x ∷ xs) ys h k m = (every_append (R x) xs ys h.0 m.0, pairs_append R xs ys h.1 k m.1)

-- an ascending list goes up from each point to all later ones
after_at : (x : PlainPoint) (ps : List PlainPoint) → Every (λ (g : Feature). x.handle < g.handle) (features_of ps)
    → (k : ℕ) (y : PlainPoint) → k < length ps → get_or ps k y ≡ y → x.handle < y.handle
after_at x [] h k y l e = absurd (omega arith)
after_at x (z ∷ ps) h zero y l e = let P : PlainPoint → Type 0 = λ w. x.handle < w.handle in subst P e h.0
after_at x (z ∷ ps) h (suc k) y l e = after_at x ps h.1 k y (omega arith) e

pub ascending_from : (ps : List PlainPoint) (i : ℕ) (x : PlainPoint) (rest : List PlainPoint) → IsAscending (features_of ps)
    → drop i ps ≡ x ∷ rest → (y : PlainPoint) → Contains rest y → x.handle < y.handle
ascending_from [] zero x rest u e y c = cc
ascending_from [] (suc i) x rest u e y c = cc
ascending_from (z ∷ ps) zero x rest u e y c =
    let first : z ≡ x = cc in
    let others : ps ≡ rest = cc in
    let P : List PlainPoint → Type 0 = λ zs. Contains zs y in
    let d = subst P (sym others) c in
    let Q : PlainPoint → Type 0 = λ w. w.handle < y.handle in
    subst Q first (after_at z ps u.0 d.0 y d.1 d.2)
ascending_from (z ∷ ps) (suc i) x rest u e y c = ascending_from ps i x rest u.1 e y c

-- ---- a loop over the points, one step on
pub take_next : (ps : List PlainPoint) (i : ℕ) (x : PlainPoint) → i < length ps → x ≡ get_or ps i x → take (i + 1) ps ≡ take i ps ++ x ∷ []
take_next ps i x l e = take_more ps i x l ∙ ap (λ z. take i ps ++ z ∷ []) (sym e)

pub drop_next : (ps : List PlainPoint) (i : ℕ) (x : PlainPoint) → i < length ps → x ≡ get_or ps i x → drop i ps ≡ x ∷ drop (i + 1) ps
drop_next ps i x l e = drop_more ps i x l ∙ ap (λ z. z ∷ drop (i + 1) ps) (sym e)

-- a point among the first ones is among those before, or the last of them
next_cases : (ps : List PlainPoint) (i : ℕ) (x : PlainPoint) → i < length ps → x ≡ get_or ps i x → (y : PlainPoint)
    → Contains (take (i + 1) ps) y → Contains (take i ps) y ⊎ (x ≡ y)
next_cases ps i x l e y c = let P : List PlainPoint → Type 0 =
    λ zs. Contains zs y in Contains-push_cases (take i ps) x y (subst P (take_next ps i x l e) c)

next_ahead : (ps : List PlainPoint) (i : ℕ) (x : PlainPoint) → i < length ps → x ≡ get_or ps i x → Contains (drop i ps) x
next_ahead ps i x l e = let P : List PlainPoint → Type 0 =
    λ zs. Contains zs x in subst P (sym (drop_next ps i x l e)) (0, omega arith, refl)

still_ahead : (ps : List PlainPoint) (i : ℕ) (x : PlainPoint) → i < length ps → x ≡ get_or ps i x → (y : PlainPoint)
    → Contains (drop (i + 1) ps) y → Contains (drop i ps) y
still_ahead ps i x l e y c = let P : List PlainPoint → Type 0 =
    λ zs. Contains zs y in subst P (sym (drop_next ps i x l e)) (Contains-append_right (x ∷ []) (drop (i + 1) ps) y c)

rises : (ps : List PlainPoint) (i : ℕ) (x : PlainPoint) → i < length ps → x ≡ get_or ps i x → IsAscending (features_of ps)
    → (y : PlainPoint) → Contains (drop (i + 1) ps) y → x.handle < y.handle
rises ps i x l e u y c = ascending_from ps i x (drop (i + 1) ps) u (drop_next ps i x l e) y c

-- ---- partners
-- bs are the partners of a at q among the first i points
pub record IsPartnersUpTo (class : ℕ) (ps : List PlainPoint) (a : ℕ) (q : Place) (i : ℕ) (bs : List ℕ) : Type 0 where
  pub right : All (λ b. (p : Point) → IsAt q p → BrokenAt (row_of class) (features_of ps) a b p) bs
  pub each : (y : PlainPoint) → Contains (take i ps) y → (p : Point) → IsAt q p → BrokenAt (row_of class) (features_of ps) a y.handle p
      → Contains bs y.handle
  pub rising : IsAscending (features_of ps) → AreRising bs
  pub below : IsAscending (features_of ps) → (y : PlainPoint) → Contains (drop i ps) y → All (λ b. b < y.handle) bs

pub no_partners_yet : (class : ℕ) (ps : List PlainPoint) (a : ℕ) (q : Place) → IsPartnersUpTo class ps a q 0 []
no_partners_yet class ps a q = record {
  right = All-nil (λ b. (p : Point) → IsAt q p → BrokenAt (row_of class) (features_of ps) a b p);
  each = λ y c p i h. absurd (omega (arith, c.1));
  rising = λ u. tt;
  below = λ u y c. All-nil (λ b. b < y.handle);
}

pub partner_more : (class : ℕ) (ps : List PlainPoint) (a : ℕ) (q : Place) (i : ℕ) (bs : List ℕ) (x : PlainPoint) → i < length ps
    → x ≡ get_or ps i x → IsPartnersUpTo class ps a q i bs
    → ((p : Point) → IsAt q p → BrokenAt (row_of class) (features_of ps) a x.handle p)
    → IsPartnersUpTo class ps a q (i + 1) (bs ++ x.handle ∷ [])
partner_more class ps a q i bs x l e h b = record {
  right = All-push (λ m. (p : Point) → IsAt q p → BrokenAt (row_of class) (features_of ps) a m p) bs x.handle h.right b;
  each = λ y c p j k. elim (next_cases ps i x l e y c) [
    | inl o ↦ Contains-append_left bs (x.handle ∷ []) y.handle (h.each y o p j k)
    | inr s ↦ let P : PlainPoint → Type 0 = λ z. Contains (bs ++ x.handle ∷ []) z.handle in subst P s (Contains-push bs x.handle)
  ];
  rising = λ u.
      let under = All-weaker (λ m. m < x.handle) (λ m. (m < x.handle) × Unit {0}) (λ m k. (k, tt)) bs
      (h.below u x (next_ahead ps i x l e)) in
      pairs_append (λ m n. m < n) bs (x.handle ∷ []) (h.rising u) (tt, tt) (recursion_from_All (λ m. (m < x.handle) × Unit {0}) bs under);
  below = λ u y c. All-push (λ m. m < y.handle) bs x.handle (h.below u y (still_ahead ps i x l e y c)) (rises ps i x l e u y c);
}

pub partner_same : (class : ℕ) (ps : List PlainPoint) (a : ℕ) (q : Place) (i : ℕ) (bs : List ℕ) (x : PlainPoint) → i < length ps
    → x ≡ get_or ps i x → IsPartnersUpTo class ps a q i bs
    → ((p : Point) → IsAt q p → ¬ (BrokenAt (row_of class) (features_of ps) a x.handle p)) → IsPartnersUpTo class ps a q (i + 1) bs
partner_same class ps a q i bs x l e h n = record {
  right = h.right;
  each = λ y c p j k. elim (next_cases ps i x l e y c) [
    | inl o ↦ h.each y o p j k
    | inr s ↦ let P : PlainPoint → Type 0 = λ z. BrokenAt (row_of class) (features_of ps) a z.handle p in absurd (n p j (subst P (sym s) k))
  ];
  rising = h.rising;
  below = λ u y c. h.below u y (still_ahead ps i x l e y c);
}

pub partners_exact : (class : ℕ) (ps : List PlainPoint) (a : ℕ) (q : Place) (i : ℕ) (bs : List ℕ) → take i ps ≡ ps
    → IsPartnersUpTo class ps a q i bs → (p : Point) → IsAt q p → (b : ℕ) → Contains bs b ↔ BrokenAt (row_of class) (features_of ps) a b p
partners_exact class ps a q i bs whole h p j b = (
  (λ c. All-contains (λ m. (p : Point) → IsAt q p → BrokenAt (row_of class) (features_of ps) a m p) bs b h.right c p j),
  (λ k.
      let w = broken_partner class (features_of ps) a b p k in
      let y = live_point ps b w.f w.live.live in
      let P : List PlainPoint → Type 0 = λ zs. Contains zs y.0 in
      let Q : ℕ → Type 0 = λ m. BrokenAt (row_of class) (features_of ps) a m p in
      let R : ℕ → Type 0 = λ m. Contains bs m in
      subst R y.3 (h.each y.0 (subst P (sym whole) y.1) p j (subst Q (sym y.3) k))),
)

-- the rule is broken at the subject's place alone
subject_at : (class : ℕ) (F : List Feature) (a b : ℕ) (f : PlainPoint) (p : Point) → Some (feature_of f) ≡ feature_at F a
    → BrokenAt (row_of class) F a b p → IsAt f.place p
subject_at class F a b f p e h =
    let w = broken_subject class F a b p h in
    let l = w.live.live in
    let same : w.f ≡ feature_of f = cc in
    let P : Feature → Type 0 = λ z. IsAt (place z) p in
    subst P same w.here

pub partners_anywhere : (class : ℕ) (F : List Feature) (a b : ℕ) (f : PlainPoint) (bs : List ℕ) → Some (feature_of f) ≡ feature_at F a
    → ((p : Point) → IsAt f.place p → (b : ℕ) → Contains bs b ↔ BrokenAt (row_of class) F a b p)
    → Contains bs b ↔ Breaks (row_of class) F a b
partners_anywhere class F a b f bs e h = (
  (λ c. (point_at f.place, (h (point_at f.place) (at_itself f.place) b).0 c)),
  (λ k. (h k.0 (subject_at class F a b f k.0 e k.1) b).1 k.1),
)

pub partners_nowhere : (class : ℕ) (F : List Feature) (a b : ℕ) → feature_at F a ≡ None → Contains [] b ↔ Breaks (row_of class) F a b
partners_nowhere class F a b e = (
  (λ c. absurd (omega (arith, c.1))),
  (λ k. absurd (nowhere F class a k.0 e (broken_subject class F a b k.0 k.1))),
)

-- the same of a call that may want memory
pub ok_partners : {X Y : Type 0} (items : X → List ℕ) (r : Result X Y) (class : ℕ) (F : List Feature) (a : ℕ) (f : PlainPoint)
    → Some (feature_of f) ≡ feature_at F a
    → IfOk r (λ v. (p : Point) → IsAt f.place p → (b : ℕ) → Contains (items v) b ↔ BrokenAt (row_of class) F a b p)
    → IfOk r (λ v. (b : ℕ) → Contains (items v) b ↔ Breaks (row_of class) F a b)
ok_partners items (Ok v) class F a f e h = λ b. partners_anywhere class F a b f (items v) e h
ok_partners items (Err n) class F a f e h = h

-- ---- pairs
-- xs are the pairs of the first i points with their partners
pub record IsPairsUpTo (class : ℕ) (ps : List PlainPoint) (i : ℕ) (xs : List (ℕ × ℕ)) : Type 0 where
  pub right : All (λ (x : ℕ × ℕ). Breaks (row_of class) (features_of ps) x.0 x.1) xs
  pub each : (y : PlainPoint) → Contains (take i ps) y → (b : ℕ) → Breaks (row_of class) (features_of ps) y.handle b
      → Contains xs (y.handle, b)
  pub ascending : IsAscending (features_of ps) → AreAscending xs
  pub below : IsAscending (features_of ps) → (y : PlainPoint) → Contains (drop i ps) y → All (λ (x : ℕ × ℕ). x.0 < y.handle) xs

pub no_pairs_yet : (class : ℕ) (ps : List PlainPoint) → IsPairsUpTo class ps 0 []
no_pairs_yet class ps = record {
  right = All-nil (λ (x : ℕ × ℕ). Breaks (row_of class) (features_of ps) x.0 x.1);
  each = λ y c b k. absurd (omega (arith, c.1));
  ascending = λ u. tt;
  below = λ u y c. All-nil (λ (x : ℕ × ℕ). x.0 < y.handle);
}

abbrev pub paired : ℕ → ℕ → ℕ × ℕ
paired a b = (a, b)

contains_map : (a b : ℕ) (bs : List ℕ) (k : ℕ) → k < length bs → get_or bs k b ≡ b → Contains (map (paired a) bs) (a, b)
contains_map a b [] k l e = absurd (omega arith)
contains_map a b (c ∷ bs) zero l e = (0, omega arith, ap (paired a) e)
contains_map a b (c ∷ bs) (suc k) l e = let d = contains_map a b bs k (omega arith) e in (suc d.0, omega (arith, d.1), d.2)

below_pairs : (a m : ℕ) (bs : List ℕ) → Every (λ n. m < n) bs → Every (IsPairBelow (a, m)) (map (paired a) bs)
below_pairs a m [] h = tt
below_pairs a m (b ∷ bs) h = (inr (refl, h.0), below_pairs a m bs h.1)

rising_pairs : (a : ℕ) (bs : List ℕ) → AreRising bs → AreAscending (map (paired a) bs)
rising_pairs a [] h = tt
rising_pairs a (b ∷ bs) h = (below_pairs a b bs h.0, rising_pairs a bs h.1)

before_pairs : (x : ℕ × ℕ) (a : ℕ) (bs : List ℕ) → x.0 < a → Every (IsPairBelow x) (map (paired a) bs)
before_pairs x a [] l = tt
before_pairs x a (b ∷ bs) l = (inl l, before_pairs x a bs l)

pub pairs_more : (class : ℕ) (ps : List PlainPoint) (i : ℕ) (xs : List (ℕ × ℕ)) (bs : List ℕ) (x : PlainPoint) → i < length ps
    → x ≡ get_or ps i x → IsPairsUpTo class ps i xs
    → ((b : ℕ) → Contains bs b ↔ Breaks (row_of class) (features_of ps) x.handle b) → (IsAscending (features_of ps) → AreRising bs)
    → IsPairsUpTo class ps (i + 1) (xs ++ map (paired x.handle) bs)
pairs_more class ps i xs bs x l e h exact rising = record {
  right = All-append P xs (map (paired x.handle) bs) h.right
      (All-map P (paired x.handle) bs (λ k d j. (exact (get_or bs k d)).0 (Contains-get_or bs k d j)));
  each = λ y c b k. elim (next_cases ps i x l e y c) [
    | inl o ↦ Contains-append_left xs (map (paired x.handle) bs) (y.handle, b) (h.each y o b k)
    | inr s ↦
        let S : PlainPoint → Type 0 = λ z. Contains (map (paired x.handle) bs) (z.handle, b) in
        let T : PlainPoint → Type 0 = λ z. Breaks (row_of class) (features_of ps) z.handle b in
        let d = (exact b).1 (subst T (sym s) k) in
        Contains-append_right xs (map (paired x.handle) bs) (y.handle, b) (subst S s (contains_map x.handle b bs d.0 d.1 d.2))
  ];
  ascending = λ u.
      let under = All-weaker (λ (z : ℕ × ℕ). z.0 < x.handle) (λ z. Every (IsPairBelow z) (map (paired x.handle) bs))
      (λ z k. before_pairs z x.handle bs k) xs (h.below u x (next_ahead ps i x l e)) in
      pairs_append IsPairBelow xs (map (paired x.handle) bs) (h.ascending u) (rising_pairs x.handle bs (rising u))
      (recursion_from_All (λ z. Every (IsPairBelow z) (map (paired x.handle) bs)) xs under);
  below = λ u y c.
      All-append (λ (z : ℕ × ℕ). z.0 < y.handle) xs (map (paired x.handle) bs) (h.below u y (still_ahead ps i x l e y c))
      (All-map (λ (z : ℕ × ℕ). z.0 < y.handle) (paired x.handle) bs (λ k d j. rises ps i x l e u y c));
} where
  P : ℕ × ℕ → Type 0
  P z = Breaks (row_of class) (features_of ps) z.0 z.1

pub pairs_exact : (class : ℕ) (ps : List PlainPoint) (i : ℕ) (xs : List (ℕ × ℕ)) → take i ps ≡ ps → IsPairsUpTo class ps i xs → (a b : ℕ)
    → Contains xs (a, b) ↔ Breaks (row_of class) (features_of ps) a b
pairs_exact class ps i xs whole h a b = (
  (λ c. All-contains (λ (x : ℕ × ℕ). Breaks (row_of class) (features_of ps) x.0 x.1) xs (a, b) h.right c),
  (λ k.
      let w = broken_subject class (features_of ps) a b k.0 k.1 in
      let y = live_point ps a w.f w.live.live in
      let P : List PlainPoint → Type 0 = λ zs. Contains zs y.0 in
      let Q : ℕ → Type 0 = λ m. Breaks (row_of class) (features_of ps) m b in
      let R : ℕ → Type 0 = λ m. Contains xs (m, b) in
      subst R y.3 (h.each y.0 (subst P (sym whole) y.1) b (subst Q (sym y.3) k))),
)

-- A fraction in lowest terms is the only one of its value, and so cells have one list of corners.
use Rattle.std.proofs.Common.{◌≡◌, ◌⊎◌, inl, inr, ℕ, zero, suc, ◌+◌, ◌*◌, ◌<◌, ◌≤◌, ◌-◌, ℤ, pos, negsuc, neg_ℤ, ◌+ℤ◌, ◌-ℤ◌, ◌*ℤ◌, ◌<ℤ◌, List, [], ◌∷◌, ◌++◌, refl, sym, ap, ◌∙◌, subst, arith}
use Prim.Native.Nat.{◌∣◌}
use Rattle.std.proofs.lemmas.Int.{ints}
use native.Mathlib.Nat.{dvd-sub_iff_left}
use Rattle.std.proofs.lemmas.Nat.Gcd.{dvd_refl, dvd-zero}
use Rattle.number_laws.proofs.Ring.{num, neg, ◌⊕◌, ◌⊖◌, ◌⊗◌, same_by}
use Rattle.number_laws.proofs.Order.{zero_unscaled, over_unscaled, natural}
use Rattle.plane_terms.specs.Lists.{Every, EveryPair, SomeOf}
use Rattle.plane_terms.specs.Point.{Point}
use Rattle.plane_terms.specs.Cell.{Cell}
use Rattle.corner_terms.specs.CornerLists.{IsLowestPair, IsInLowest, LiesAt, IsBefore, IsTold, AreTold, AreOfCell, AreOfCells}
use Rattle.corner_terms.specs.declared.cell_corner.Fraction.{Fraction}
use Rattle.corner_terms.specs.declared.cell_corner.CellCorner.{CellCorner}
use Rattle.cell_corners.proofs.Ascents.{both_same}

-- ---- two numbers that only 1 divides, and 1 as a sum of multiples of them
abbrev AreApart : ℕ → ℕ → Type 0
AreApart a d = (e : ℕ) → e ∣ a → e ∣ d → e ≡ 1

record Mixes (a d : ℤ) : Type 0 where
  pub u : ℤ
  pub v : ℤ
  pub one : u *ℤ a +ℤ v *ℤ d ≡ pos 1

first_more : (u v k d : ℤ) → u *ℤ k +ℤ v *ℤ d ≡ pos 1 → u *ℤ (k +ℤ d) +ℤ (v -ℤ u) *ℤ d ≡ pos 1
first_more u v k d e =
    same_by (num u ⊗ (num k ⊕ num d) ⊕ (num v ⊖ num u) ⊗ num d) (num u ⊗ num k ⊕ num v ⊗ num d) (omega arith) ∙ e

second_more : (u v a k : ℤ) → u *ℤ a +ℤ v *ℤ k ≡ pos 1 → (u -ℤ v) *ℤ a +ℤ v *ℤ (k +ℤ a) ≡ pos 1
second_more u v a k e =
    same_by ((num u ⊖ num v) ⊗ num a ⊕ num v ⊗ (num k ⊕ num a)) (num u ⊗ num a ⊕ num v ⊗ num k) (omega arith) ∙ e

apart_first : (a d : ℕ) → d ≤ a → AreApart a d → AreApart (a - d) d
apart_first a d h c = λ e x y. c e ((dvd-sub_iff_left e h y).0 x) y

apart_second : (a d : ℕ) → a ≤ d → AreApart a d → AreApart a (d - a)
apart_second a d h c = λ e x y. c e x ((dvd-sub_iff_left e h x).0 y)

sum_back : (a d : ℕ) → d ≤ a → pos (a - d) +ℤ pos d ≡ pos a
sum_back a d h = omega (arith, ints)

less_or_more : (a d : ℕ) → (d ≤ a) ⊎ (a ≤ d)
less_or_more a d = grind arith

-- Euclid's steps
mixed : (fuel a d : ℕ) → a + d ≤ fuel → AreApart a d → Mixes (pos a) (pos d)
mixed fuel zero d h c =
    let e : d ≡ 1 = c d (dvd-zero d) (dvd_refl d) in
    subst (λ n. Mixes (pos 0) (pos n)) (sym e) (record { u = pos 0; v = pos 1; one = refl })
mixed fuel (suc a) zero h c =
    let e : suc a ≡ 1 = c (suc a) (dvd_refl (suc a)) (dvd-zero (suc a)) in
    subst (λ n. Mixes (pos n) (pos 0)) (sym e) (record { u = pos 1; v = pos 0; one = refl })
mixed zero (suc a) (suc d) h c = absurd (omega (arith, h))
mixed (suc fuel) (suc a) (suc d) h c = elim (less_or_more (suc a) (suc d)) [
  | inl l ↦
      let m = mixed fuel (suc a - suc d) (suc d) (omega (arith, h, l)) (apart_first (suc a) (suc d) l c) in
      record {
        u = m.u;
        v = m.v -ℤ m.u;
        one = subst (λ z. m.u *ℤ z +ℤ (m.v -ℤ m.u) *ℤ pos (suc d) ≡ pos 1) (sum_back (suc a) (suc d) l)
            (first_more m.u m.v (pos (suc a - suc d)) (pos (suc d)) m.one);
      }
  | inr l ↦
      let m = mixed fuel (suc a) (suc d - suc a) (omega (arith, h, l)) (apart_second (suc a) (suc d) l c) in
      record {
        u = m.u -ℤ m.v;
        v = m.v;
        one = subst (λ z. (m.u -ℤ m.v) *ℤ pos (suc a) +ℤ m.v *ℤ z ≡ pos 1) (sum_back (suc d) (suc a) l)
            (second_more m.u m.v (pos (suc a)) (pos (suc d - suc a)) m.one);
      }
]

mixes : (n : ℤ) (d : ℕ) → IsLowestPair n d → Mixes n (pos d)
mixes (pos a) d c = mixed (a + d) a d (omega arith) c
mixes (negsuc a) d c =
    let m = mixed (suc a + d) (suc a) d (omega arith) c in
    record { u = neg_ℤ m.u; v = m.v; one = turned m.u m.v (pos (suc a)) (pos d) m.one }
  where
    turned : (u v a d : ℤ) → u *ℤ a +ℤ v *ℤ d ≡ pos 1 → neg_ℤ u *ℤ neg_ℤ a +ℤ v *ℤ d ≡ pos 1
    turned u v a d e = same_by (neg (num u) ⊗ neg (num a) ⊕ num v ⊗ num d) (num u ⊗ num a ⊕ num v ⊗ num d) (omega arith) ∙ e

-- ---- one fraction of a value
shared : (n d m e u v : ℤ) → u *ℤ n +ℤ v *ℤ d ≡ pos 1 → n *ℤ e ≡ m *ℤ d → d *ℤ (u *ℤ m +ℤ v *ℤ e) ≡ e
shared n d m e u v one same =
    same_by (num d ⊗ (num u ⊗ num m ⊕ num v ⊗ num e)) (num u ⊗ (num m ⊗ num d) ⊕ num v ⊗ num d ⊗ num e) (omega arith)
    ∙ (ap (λ z. u *ℤ z +ℤ v *ℤ d *ℤ e) (sym same)
    ∙ (same_by (num u ⊗ (num n ⊗ num e) ⊕ num v ⊗ num d ⊗ num e) ((num u ⊗ num n ⊕ num v ⊗ num d) ⊗ num e) (omega arith)
    ∙ (ap (λ z. z *ℤ e) one ∙ same_by (num (pos 1) ⊗ num e) (num e) (omega arith))))

at_most : (d e : ℕ) (q : ℤ) → 0 < d → 0 < e → pos d *ℤ q ≡ pos e → d ≤ e
at_most d e q p r h =
    let over : pos 0 <ℤ pos e = over_pos e r in
    let n = natural q (over_unscaled (pos d) q (over_pos d p) (subst (λ z. pos 0 <ℤ z) (sym h) over)) in
    let same : pos (d * n.0) ≡ pos e = same_by (num (pos (d * n.0))) (num (pos d) ⊗ num (pos n.0)) (omega arith)
    ∙ (ap (λ z. pos d *ℤ z) (sym n.2) ∙ h) in
    let whole : d * n.0 ≡ e = cc in
    subst (λ z. d ≤ z) whole (more d n.0 n.1)
  where
    more : (d n : ℕ) → 0 < n → d ≤ d * n
    more d zero p = absurd (omega (arith, p))
    more d (suc n) p = omega arith

    over_pos : (n : ℕ) → 0 < n → pos 0 <ℤ pos n
    over_pos n h = omega (arith, ints)

least_denominator : (f g : Fraction) → IsInLowest f → IsInLowest g → f.n *ℤ pos g.d ≡ g.n *ℤ pos f.d → f.d ≤ g.d
least_denominator f g h k e =
    let m = mixes f.n f.d h.lowest in
    at_most f.d g.d (m.u *ℤ g.n +ℤ m.v *ℤ pos g.d) h.over k.over (shared f.n (pos f.d) g.n (pos g.d) m.u m.v m.one e)

same_fraction : (n m : ℤ) (d e : ℕ) → n ≡ m → d ≡ e → (let f : Fraction = record { n = n; d = d } in let g : Fraction = record { n = m; d = e } in f ≡ g)
same_fraction n m d e h k = rw (h, k) refl

one_fraction : (f g : Fraction) → IsInLowest f → IsInLowest g → f.n *ℤ pos g.d ≡ g.n *ℤ pos f.d → f ≡ g
one_fraction f g h k e =
    let d : f.d ≡ g.d = level f.d g.d (least_denominator f g h k e) (least_denominator g f k h (sym e)) in
    let n : f.n *ℤ pos g.d ≡ g.n *ℤ pos g.d = e ∙ ap (λ z. g.n *ℤ pos z) d in
    same_fraction f.n g.n f.d g.d (cancelled f.n g.n g.d k.over n) d
  where
    level : (a b : ℕ) → a ≤ b → b ≤ a → a ≡ b
    level a b h k = omega (arith, h, k)

    none : (x y : ℤ) → x ≡ y → x -ℤ y ≡ pos 0
    none x y e = omega (arith, ints)

    still : (x y : ℤ) → x -ℤ y ≡ pos 0 → x ≡ y
    still x y e = omega (arith, ints)

    over_pos : (n : ℕ) → 0 < n → pos 0 <ℤ pos n
    over_pos n h = omega (arith, ints)

    cancelled : (a b : ℤ) (d : ℕ) → 0 < d → a *ℤ pos d ≡ b *ℤ pos d → a ≡ b
    cancelled a b d p e = still a b (zero_unscaled (pos d) (a -ℤ b) (over_pos d p)
        (same_by (num (pos d) ⊗ (num a ⊖ num b)) (num a ⊗ num (pos d) ⊖ num b ⊗ num (pos d)) (omega arith) ∙ none (a *ℤ pos d) (b *ℤ pos d) e))

-- ---- one corner at a point
abbrev own_point : (k : CellCorner) → 0 < k.x.d → 0 < k.y.d → Point
own_point k p q = record { x = k.x.n *ℤ pos k.y.d; y = k.y.n *ℤ pos k.x.d; w = k.x.d * k.y.d; positive = product k.x.d k.y.d p q }
  where
    product : (a b : ℕ) → 0 < a → 0 < b → 0 < a * b
    product zero b p q = absurd (omega (arith, p))
    product (suc a) zero p q = absurd (omega (arith, q))
    product (suc a) (suc b) p q = omega arith

lies_there : (k : CellCorner) (p : 0 < k.x.d) (q : 0 < k.y.d) → LiesAt (own_point k p q) k
lies_there k p q = record { x = first k.x.n k.x.d k.y.d; y = second k.y.n k.x.d k.y.d }
  where
    first : (n : ℤ) (a b : ℕ) → n *ℤ pos (a * b) ≡ n *ℤ pos b *ℤ pos a
    first n a b = same_by (num n ⊗ num (pos (a * b))) (num n ⊗ num (pos b) ⊗ num (pos a)) (omega arith)

    second : (n : ℤ) (a b : ℕ) → n *ℤ pos (a * b) ≡ n *ℤ pos a *ℤ pos b
    second n a b = same_by (num n ⊗ num (pos (a * b))) (num n ⊗ num (pos a) ⊗ num (pos b)) (omega arith)

same_corner : (i j : ℕ) (f g h k : Fraction) → i ≡ j → f ≡ g → h ≡ k → (let a : CellCorner = record { cell = i; x = f; y = h } in
    let b : CellCorner = record { cell = j; x = g; y = k } in a ≡ b)
same_corner i j f g h k a b c = rw (a, b, c) refl

one_there : (i : ℕ) (k l : CellCorner) (p : Point) → IsTold i k → IsTold i l → LiesAt p k → LiesAt p l → k ≡ l
one_there i k l p h g a b =
    let over : pos 0 <ℤ pos p.w = omega (arith, ints, p.positive) in
    same_corner k.cell l.cell k.x l.x k.y l.y (h.cell ∙ sym g.cell)
    (one_fraction k.x l.x h.x g.x (both_same k.x.n (pos k.x.d) p.x (pos p.w) l.x.n (pos l.x.d) over a.x (sym b.x)))
    (one_fraction k.y l.y h.y g.y (both_same k.y.n (pos k.y.d) p.y (pos p.w) l.y.n (pos l.y.d) over a.y (sym b.y)))

-- ---- one list of a cell
abbrev IsIn : List CellCorner → CellCorner → Type 0
IsIn ks l = SomeOf (λ k. k ≡ l) ks

found_in : (i : ℕ) (ks : List CellCorner) (l : CellCorner) (p : Point) → Every (IsTold i) ks → IsTold i l → LiesAt p l → SomeOf (LiesAt p) ks
    → IsIn ks l
found_in i [] l p t h a s = s
found_in i (k ∷ ks) l p t h a s = elim s [
  | inl b ↦ inl (one_there i k l p t.0 h b a)
  | inr c ↦ inr (found_in i ks l p t.1 h a c)
]

each_in : (i : ℕ) (c : Cell) (ks ls ts : List CellCorner) → AreTold i c ks → AreTold i c ls
    → ((p : Point) → SomeOf (LiesAt p) ts → SomeOf (LiesAt p) ks) → Every (IsTold i) ts → Every (IsIn ls) ts
each_in i c ks ls [] h g some t = tt
each_in i c ks ls (k ∷ ts) h g some t =
    let p = own_point k t.0.x.over t.0.y.over in
    let l = lies_there k t.0.x.over t.0.y.over in
    let s = (g.exact p).0 ((h.exact p).1 (some p (inl l))) in
    (found_in i ls k p g.told t.0 l s, each_in i c ks ls ts h g (λ q a. some q (inr a)) t.1)

not_both : (k l : CellCorner) → IsBefore k l → IsBefore l k → ⊥
not_both k l a b = elim a [
  | inl h ↦ elim b [ inl g ↦ less (k.x.n *ℤ pos l.x.d) (l.x.n *ℤ pos k.x.d) h g | inr g ↦ level (k.x.n *ℤ pos l.x.d) (l.x.n *ℤ pos k.x.d) h g.0 ]
  | inr h ↦ elim b [
    | inl g ↦ level (l.x.n *ℤ pos k.x.d) (k.x.n *ℤ pos l.x.d) g h.0
    | inr g ↦ less (k.y.n *ℤ pos l.y.d) (l.y.n *ℤ pos k.y.d) h.1 g.1
  ]
]
  where
    less : (x y : ℤ) → x <ℤ y → y <ℤ x → ⊥
    less x y h g = omega (arith, ints)

    level : (x y : ℤ) → x <ℤ y → y ≡ x → ⊥
    level x y h e = omega (arith, ints)

has_of : (P : CellCorner → Type 0) (ks : List CellCorner) (l : CellCorner) → Every P ks → IsIn ks l → P l
has_of P [] l h s = absurd s
has_of P (k ∷ ks) l h s = elim s [ inl e ↦ subst P e h.0 | inr r ↦ has_of P ks l h.1 r ]

-- what follows the first is among what follows the other's
behind : (k l : CellCorner) (ks ls : List CellCorner) → l ≡ k → Every (IsBefore k) ks → Every (IsIn (l ∷ ls)) ks → Every (IsIn ls) ks
behind k l [] ls e a h = tt
behind k l (x ∷ ks) ls e a h = (
  elim h.0 [
    | inl same ↦ absurd (not_both k k (own (sym same ∙ e) a.0) (own (sym same ∙ e) a.0))
    | inr r ↦ r
  ],
  behind k l ks ls e a.1 h.1,
)
  where
    own : x ≡ k → IsBefore k x → IsBefore k k
    own same b = subst (λ y. IsBefore k y) same b

sorted : (ks ls : List CellCorner) → EveryPair IsBefore ks → EveryPair IsBefore ls → Every (IsIn ls) ks → Every (IsIn ks) ls → ks ≡ ls
sorted [] [] a b h g = refl
sorted [] (l ∷ ls) a b h g = absurd g.0
sorted (k ∷ ks) [] a b h g = absurd h.0
sorted (k ∷ ks) (l ∷ ls) a b h g =
    let same : l ≡ k = elim h.0 [
      | inl e ↦ e
      | inr r ↦ elim g.0 [
        | inl e ↦ sym e
        | inr s ↦ absurd (not_both k l (has_of (IsBefore k) ks l a.0 s) (has_of (IsBefore l) ls k b.0 r))
      ]
    ] in
    let rest : ks ≡ ls = sorted ks ls a.1 b.1 (behind k l ks ls same a.0 h.1) (behind l k ls ks (sym same) b.0 g.1) in
    ap (λ x. x ∷ ks) (sym same) ∙ ap (λ (xs : List CellCorner). l ∷ xs) rest

one_told : (i : ℕ) (c : Cell) (ks ls : List CellCorner) → AreTold i c ks → AreTold i c ls → ks ≡ ls
one_told i c ks ls h g = sorted ks ls h.ascending g.ascending (each_in i c ks ls ks h g (λ p s. s) h.told)
    (each_in i c ls ks ls g h (λ p s. s) g.told)

one_of_cell : (i : ℕ) (c : Cell) (ks ls : List CellCorner) → AreOfCell i c ks → AreOfCell i c ls → ks ≡ ls
one_of_cell i c ks ls h g = elim h [
  | inl a ↦ elim g [ inl b ↦ one_told i c ks ls a.1 b.1 | inr b ↦ absurd (b.0 a.0) ]
  | inr a ↦ elim g [ inl b ↦ absurd (a.0 b.0) | inr b ↦ a.1 ∙ sym b.1 ]
]

pub one_list : (i : ℕ) (cs : List Cell) (ks ls : List CellCorner) → AreOfCells i cs ks → AreOfCells i cs ls → ks ≡ ls
one_list i [] ks ls h g = h ∙ sym g
one_list i (c ∷ cs) ks ls (first, rest, is, own, others) (front, left, are, here, more) =
    let a : first ≡ front = one_of_cell i c first front own here in
    let b : rest ≡ left = one_list (suc i) cs rest left others more in
    is ∙ (ap (λ (x : List CellCorner). x ++ rest) a ∙ (ap (λ (x : List CellCorner). front ++ x) b ∙ sym are))

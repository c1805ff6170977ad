-- The unknown y is eliminated: what is left of a cell at an abscissa.
use Rattle.std.proofs.Common.{◌≡◌, ℕ, ◌*◌, ◌<◌, true, false, List, [], ◌∷◌, ℤ, pos, negsuc, ◌+ℤ◌, ◌*ℤ◌, neg_ℤ, ◌<ℤ◌, arith, refl, sym}
use Rattle.std.proofs.Common.{subst, suc, zero, Option, Some, None, IfSome}
use Rattle.std.specs.List.{AllByRecursion}
use Rattle.std.proofs.lemmas.Int.{ints}
use Rattle.std.proofs.Math.Nat.{mul-pos}
use Rattle.plane_terms.specs.Point.{Point}
use Rattle.plane_terms.specs.HalfPlane.{HalfPlane, Holds, Says}
use Rattle.plane_terms.specs.declared.op.Op.{Op}
use Rattle.plane_terms.specs.declared.op.Op.TheVariants.{Over, AtLeast, Zero}
use Rattle.plane_terms.specs.Decide.{Edge, Bound, low_of, high_of}
use Rattle.cell_laws.specs.Bounds.{Above, level, Compatible, FlatHolds}
use Rattle.number_laws.proofs.Ring.{num, neg, ◌⊕◌, ◌⊗◌, same_by}
use Rattle.number_laws.proofs.Order.{product_at_least, product_over}
use Rattle.cell_laws.proofs.LineLists.{IsRising, AllowedBy, Goes, GoesWithAll, helly}

-- the edge at an abscissa, as a constraint on y
abbrev pub line_of : ℤ → ℕ → Edge → Bound
line_of x w e = record { m = e.b; k = level e x w; strict = e.strict }

-- the point over the abscissa x / w at the height t / d
abbrev pub over : ℤ → (w : ℕ) → 0 < w → ℤ → (d : ℕ) → 0 < d → Point
over x w p t d q = record { x = x *ℤ pos d; y = t; w = w * d; positive = mul-pos p q }

Says-scaled : (o : Op) (v : ℤ) (d : ℕ) → 0 < d → Says o v → Says o (v *ℤ pos d)
Says-scaled Over v d p h = product_over v (pos d) h (omega (arith, ints))
Says-scaled AtLeast v d p h = product_at_least v (pos d) h (omega (arith, ints))
Says-scaled Zero v d p h = subst (λ z. z *ℤ pos d ≡ pos 0) (sym h) (omega (arith, ints))

-- a value, and what it is once y stands apart
value_split : (a b c x t : ℤ) (w d : ℕ) → b *ℤ t +ℤ (a *ℤ x +ℤ c *ℤ pos w) *ℤ pos d ≡ a *ℤ (x *ℤ pos d) +ℤ b *ℤ t +ℤ c *ℤ pos (w * d)
value_split a b c x t w d =
    same_by (num b ⊗ num t ⊕ (num a ⊗ num x ⊕ num c ⊗ num (pos w)) ⊗ num (pos d))
    (num a ⊗ (num x ⊗ num (pos d)) ⊕ num b ⊗ num t ⊕ num c ⊗ num (pos (w * d))) (omega arith)

value_turned : (a b c x t : ℤ) (w d : ℕ) → neg_ℤ b *ℤ neg_ℤ t +ℤ (a *ℤ x +ℤ c *ℤ pos w) *ℤ pos d ≡ a *ℤ (x *ℤ pos d) +ℤ b *ℤ t +ℤ c *ℤ pos
    (w * d)
value_turned a b c x t w d =
    same_by (neg (num b) ⊗ neg (num t) ⊕ (num a ⊗ num x ⊕ num c ⊗ num (pos w)) ⊗ num (pos d))
    (num a ⊗ (num x ⊗ num (pos d)) ⊕ num b ⊗ num t ⊕ num c ⊗ num (pos (w * d))) (omega arith)

negative_split : (a b c x t : ℤ) (w d : ℕ) → neg_ℤ b *ℤ t +ℤ (neg_ℤ a *ℤ x +ℤ neg_ℤ c *ℤ pos w) *ℤ pos d
    ≡ neg_ℤ (a *ℤ (x *ℤ pos d) +ℤ b *ℤ t +ℤ c *ℤ pos (w * d))
negative_split a b c x t w d =
    same_by (neg (num b) ⊗ num t ⊕ (neg (num a) ⊗ num x ⊕ neg (num c) ⊗ num (pos w)) ⊗ num (pos d))
    (neg (num a ⊗ (num x ⊗ num (pos d)) ⊕ num b ⊗ num t ⊕ num c ⊗ num (pos (w * d)))) (omega arith)

negative_turned : (a b c x t : ℤ) (w d : ℕ) → b *ℤ neg_ℤ t +ℤ (neg_ℤ a *ℤ x +ℤ neg_ℤ c *ℤ pos w) *ℤ pos d
    ≡ neg_ℤ (a *ℤ (x *ℤ pos d) +ℤ b *ℤ t +ℤ c *ℤ pos (w * d))
negative_turned a b c x t w d =
    same_by (num b ⊗ neg (num t) ⊕ (neg (num a) ⊗ num x ⊕ neg (num c) ⊗ num (pos w)) ⊗ num (pos d))
    (neg (num a ⊗ (num x ⊗ num (pos d)) ⊕ num b ⊗ num t ⊕ num c ⊗ num (pos (w * d)))) (omega arith)

flat_split : (a c x t : ℤ) (w d : ℕ) → (a *ℤ x +ℤ c *ℤ pos w) *ℤ pos d ≡ a *ℤ (x *ℤ pos d) +ℤ pos 0 *ℤ t +ℤ c *ℤ pos (w * d)
flat_split a c x t w d =
    same_by ((num a ⊗ num x ⊕ num c ⊗ num (pos w)) ⊗ num (pos d)) (num a ⊗ (num x ⊗ num (pos d)) ⊕ num (pos 0) ⊗ num t ⊕ num c ⊗ num
    (pos (w * d))) (omega arith)

pub zero_both : (v : ℤ) → Above false v → Above false (neg_ℤ v) → v ≡ pos 0
zero_both v h k = omega (arith, ints)

abbrev parts : ℤ → ℤ → ℤ → Op → HalfPlane
parts a b c o = record { a = a; b = b; c = c; op = o }

low_out : (a b c x t : ℤ) (w : ℕ) → a *ℤ x +ℤ b *ℤ t +ℤ c *ℤ pos w ≡ b *ℤ t +ℤ (a *ℤ x +ℤ c *ℤ pos w) *ℤ pos 1
low_out a b c x t w = same_by (num a ⊗ num x ⊕ num b ⊗ num t ⊕ num c ⊗ num (pos w))
    (num b ⊗ num t ⊕ (num a ⊗ num x ⊕ num c ⊗ num (pos w)) ⊗ num (pos 1)) (omega arith)

high_out : (a b c x t : ℤ) (w : ℕ) → a *ℤ x +ℤ b *ℤ t +ℤ c *ℤ pos w ≡ neg_ℤ b *ℤ neg_ℤ t +ℤ (a *ℤ x +ℤ c *ℤ pos w) *ℤ pos 1
high_out a b c x t w = same_by (num a ⊗ num x ⊕ num b ⊗ num t ⊕ num c ⊗ num (pos w))
    (neg (num b) ⊗ neg (num t) ⊕ (num a ⊗ num x ⊕ num c ⊗ num (pos w)) ⊗ num (pos 1)) (omega arith)

turned_out : (a b c x t : ℤ) (w : ℕ)
    → neg_ℤ (a *ℤ x +ℤ b *ℤ t +ℤ c *ℤ pos w) ≡ b *ℤ neg_ℤ t +ℤ (neg_ℤ a *ℤ x +ℤ neg_ℤ c *ℤ pos w) *ℤ pos 1
turned_out a b c x t w = same_by (neg (num a ⊗ num x ⊕ num b ⊗ num t ⊕ num c ⊗ num (pos w)))
    (num b ⊗ neg (num t) ⊕ (neg (num a) ⊗ num x ⊕ neg (num c) ⊗ num (pos w)) ⊗ num (pos 1)) (omega arith)

negative_out : (a b c x t : ℤ) (w : ℕ)
    → neg_ℤ (a *ℤ x +ℤ b *ℤ t +ℤ c *ℤ pos w) ≡ neg_ℤ b *ℤ t +ℤ (neg_ℤ a *ℤ x +ℤ neg_ℤ c *ℤ pos w) *ℤ pos 1
negative_out a b c x t w = same_by (neg (num a ⊗ num x ⊕ num b ⊗ num t ⊕ num c ⊗ num (pos w)))
    (neg (num b) ⊗ num t ⊕ (neg (num a) ⊗ num x ⊕ neg (num c) ⊗ num (pos w)) ⊗ num (pos 1)) (omega arith)

half_by_parts : (a b c : ℤ) (o : Op) (x : ℤ) (w : ℕ) (p : 0 < w) (t : ℤ) (d : ℕ) (q : 0 < d)
    → IfSome (low_of (parts a b c o)) (λ e. AllowedBy t d (line_of x w e))
    → IfSome (high_of (parts a b c o)) (λ e. AllowedBy (neg_ℤ t) d (line_of x w e)) → FlatHolds (parts a b c o) x w
    → Holds (parts a b c o) (over x w p t d q)
half_by_parts a (pos zero) c o x w p t d q l u f = subst (Says o) (flat_split a c x t w d) (Says-scaled o _ d q (f refl))
half_by_parts a (pos (suc n)) c Over x w p t d q l u f = subst (Above true) (value_split a (pos (suc n)) c x t w d) l
half_by_parts a (pos (suc n)) c AtLeast x w p t d q l u f = subst (Above false) (value_split a (pos (suc n)) c x t w d) l
half_by_parts a (pos (suc n)) c Zero x w p t d q l u f = zero_both _ (subst (Above false) (value_split a (pos (suc n)) c x t w d) l)
    (subst (Above false) (negative_turned a (pos (suc n)) c x t w d) u)
half_by_parts a (negsuc n) c Over x w p t d q l u f = subst (Above true) (value_turned a (negsuc n) c x t w d) u
half_by_parts a (negsuc n) c AtLeast x w p t d q l u f = subst (Above false) (value_turned a (negsuc n) c x t w d) u
half_by_parts a (negsuc n) c Zero x w p t d q l u f = zero_both _ (subst (Above false) (value_turned a (negsuc n) c x t w d) u)
    (subst (Above false) (negative_split a (negsuc n) c x t w d) l)

pub half_over : (h : HalfPlane) (x : ℤ) (w : ℕ) (p : 0 < w) (t : ℤ) (d : ℕ) (q : 0 < d)
    → IfSome (low_of h) (λ e. AllowedBy t d (line_of x w e)) → IfSome (high_of h) (λ e. AllowedBy (neg_ℤ t) d (line_of x w e))
    → FlatHolds h x w → Holds h (over x w p t d q)
half_over h x w p t d q l u f = half_by_parts h.a h.b h.c h.op x w p t d q l u f

-- the other way: a half that holds at a point gives its edges there
edges_by_parts : (a b c : ℤ) (o : Op) (q : Point) → Holds (parts a b c o) q
    → IfSome (low_of (parts a b c o)) (λ e. AllowedBy q.y 1 (line_of q.x q.w e))
    × IfSome (high_of (parts a b c o)) (λ e. AllowedBy (neg_ℤ q.y) 1 (line_of q.x q.w e)) × FlatHolds (parts a b c o) q.x q.w
edges_by_parts a (pos zero) c o q h = (tt, tt, λ e. subst (Says o) (flat_out a c q.x q.y q.w) h)
  where
    flat_out : (a c x t : ℤ) (w : ℕ) → a *ℤ x +ℤ pos 0 *ℤ t +ℤ c *ℤ pos w ≡ a *ℤ x +ℤ c *ℤ pos w
    flat_out a c x t w = same_by (num a ⊗ num x ⊕ num (pos 0) ⊗ num t ⊕ num c ⊗ num (pos w)) (num a ⊗ num x ⊕ num c ⊗ num (pos w))
        (omega arith)
edges_by_parts a (pos (suc n)) c Over q h = (
  subst (Above true) (low_out a (pos (suc n)) c q.x q.y q.w) h,
  tt,
  λ e. absurd
      (omega (arith, ints)),
)
edges_by_parts a (pos (suc n)) c AtLeast q h = (
  subst (Above false) (low_out a (pos (suc n)) c q.x q.y q.w) h,
  tt,
  λ e. absurd
      (omega (arith, ints)),
)
edges_by_parts a (pos (suc n)) c Zero q h = (
  subst (Above false) (low_out a (pos (suc n)) c q.x q.y q.w) (omega (arith, ints)),
  subst
      (Above false) (turned_out a (pos (suc n)) c q.x q.y q.w) (omega (arith, ints)),
  λ e. absurd (omega (arith, ints)),
)
edges_by_parts a (negsuc n) c Over q h = (
  tt,
  subst (Above true) (high_out a (negsuc n) c q.x q.y q.w) h,
  λ e. absurd
      (omega (arith, ints)),
)
edges_by_parts a (negsuc n) c AtLeast q h = (
  tt,
  subst (Above false) (high_out a (negsuc n) c q.x q.y q.w) h,
  λ e. absurd
      (omega (arith, ints)),
)
edges_by_parts a (negsuc n) c Zero q h = (
  subst (Above false) (negative_out a (negsuc n) c q.x q.y q.w) (omega (arith, ints)),
  subst
      (Above false) (high_out a (negsuc n) c q.x q.y q.w) (omega (arith, ints)),
  λ e. absurd (omega (arith, ints)),
)

-- what a half leaves of y at the point
pub record Edges (h : HalfPlane) (q : Point) : Type 0 where
  pub low : IfSome (low_of h) (λ e. AllowedBy q.y 1 (line_of q.x q.w e))
  pub high : IfSome (high_of h) (λ e. AllowedBy (neg_ℤ q.y) 1 (line_of q.x q.w e))
  pub flat : FlatHolds h q.x q.w

pub edges_at : (h : HalfPlane) (q : Point) → Holds h q → Edges h q
edges_at h q k = let e = edges_by_parts h.a h.b h.c h.op q k in record { low = e.0; high = e.1; flat = e.2 }

-- ---- lists of halves

put : Option Edge → ℤ → ℕ → List Bound → List Bound
put None x w ls = ls
put (Some e) x w ls = line_of x w e ∷ ls

lines : (HalfPlane → Option Edge) → ℤ → ℕ → List HalfPlane → List Bound
lines f x w [] = []
lines f x w (h ∷ hs) = put (f h) x w (lines f x w hs)

put_all : (P : Bound → Type 0) (o : Option Edge) (x : ℤ) (w : ℕ) (ls : List Bound) → IfSome o (λ e. P (line_of x w e))
    → AllByRecursion P ls → AllByRecursion P (put o x w ls)
unfolding put
put_all P None x w ls h k = k
put_all P (Some e) x w ls h k = (h, k)

put_out : (P : Bound → Type 0) (o : Option Edge) (x : ℤ) (w : ℕ) (ls : List Bound) → AllByRecursion P (put o x w ls)
    → IfSome o (λ e. P (line_of x w e)) × AllByRecursion P ls
unfolding put
put_out P None x w ls k = (tt, k)
put_out P (Some e) x w ls k = k

lines_all : (P : Bound → Type 0) (f : HalfPlane → Option Edge) (x : ℤ) (w : ℕ) (hs : List HalfPlane)
    → AllByRecursion (λ h. IfSome (f h) (λ e. P (line_of x w e))) hs → AllByRecursion P (lines f x w hs)
unfolding lines
lines_all P f x w [] k = tt
lines_all P f x w (h ∷ hs) k = put_all P (f h) x w (lines f x w hs) k.0 (lines_all P f x w hs k.1)

lines_out : (P : Bound → Type 0) (f : HalfPlane → Option Edge) (x : ℤ) (w : ℕ) (hs : List HalfPlane) → AllByRecursion P (lines f x w hs)
    → AllByRecursion (λ h. IfSome (f h) (λ e. P (line_of x w e))) hs
unfolding lines
lines_out P f x w [] k = tt
lines_out P f x w (h ∷ hs) k = let s = put_out P (f h) x w (lines f x w hs) k in (s.0, lines_out P f x w hs s.1)

-- an edge's factor is positive
low_by_parts : (a b c : ℤ) (o : Op) → IfSome (low_of (parts a b c o)) (λ e. pos 0 <ℤ e.b)
low_by_parts a (pos zero) c o = tt
low_by_parts a (pos (suc n)) c o = omega (arith, ints)
low_by_parts a (negsuc n) c Over = tt
low_by_parts a (negsuc n) c AtLeast = tt
low_by_parts a (negsuc n) c Zero = omega (arith, ints)

high_by_parts : (a b c : ℤ) (o : Op) → IfSome (high_of (parts a b c o)) (λ e. pos 0 <ℤ e.b)
high_by_parts a (pos zero) c o = tt
high_by_parts a (pos (suc n)) c Over = tt
high_by_parts a (pos (suc n)) c AtLeast = tt
high_by_parts a (pos (suc n)) c Zero = omega (arith, ints)
high_by_parts a (negsuc n) c o = omega (arith, ints)

pub low_rising : (h : HalfPlane) → IfSome (low_of h) (λ e. pos 0 <ℤ e.b)
low_rising h = low_by_parts h.a h.b h.c h.op

pub high_rising : (h : HalfPlane) → IfSome (high_of h) (λ e. pos 0 <ℤ e.b)
high_rising h = high_by_parts h.a h.b h.c h.op

pub some_both : {A : Type 0} (P Q R : A → Type 0) (o : Option A) → IfSome o P → IfSome o Q → ((a : A) → P a → Q a → R a) → IfSome o R
some_both P Q R None h k f = tt
some_both P Q R (Some a) h k f = f a h k

pub all_weaker : {A : Type 0} (P Q : A → Type 0) → ((a : A) → P a → Q a) → (xs : List A) → AllByRecursion P xs → AllByRecursion Q xs
all_weaker P Q f [] k = tt
all_weaker P Q f (x ∷ xs) k = (f x k.0, all_weaker P Q f xs k.1)

all_given : {A : Type 0} (P : A → Type 0) → ((a : A) → P a) → (xs : List A) → AllByRecursion P xs
all_given P f [] = tt
all_given P f (x ∷ xs) = (f x, all_given P f xs)

-- what the low bound of a half has with the high bounds of all
abbrev pub PairHolds : List HalfPlane → ℤ → ℕ → HalfPlane → Type 0
PairHolds hs x w h = IfSome (low_of h) (λ l. AllByRecursion (λ g. IfSome (high_of g) (λ u. Compatible l u x w)) hs)

zip_holds : (x : ℤ) (w : ℕ) (p : 0 < w) (t : ℤ) (d : ℕ) (q : 0 < d) (hs : List HalfPlane)
    → AllByRecursion (λ h. IfSome (low_of h) (λ e. AllowedBy t d (line_of x w e))) hs
    → AllByRecursion (λ h. IfSome (high_of h) (λ e. AllowedBy (neg_ℤ t) d (line_of x w e))) hs → AllByRecursion (λ h. FlatHolds h x w) hs
    → AllByRecursion (λ h. Holds h (over x w p t d q)) hs
zip_holds x w p t d q [] l u f = tt
zip_holds x w p t d q (h ∷ hs) l u f = (half_over h x w p t d q l.0 u.0 f.0, zip_holds x w p t d q hs l.1 u.1 f.1)

pub record OverAbscissa (hs : List HalfPlane) (x : ℤ) (w : ℕ) (p : 0 < w) : Type 0 where
  pub y : ℤ
  pub d : ℕ
  pub positive : 0 < d
  pub within : AllByRecursion (λ h. Holds h (over x w p y d positive)) hs

-- where all pairs are compatible at an abscissa, a point of the cell lies over it
pub eliminated : (hs : List HalfPlane) (x : ℤ) (w : ℕ) (p : 0 < w) → AllByRecursion (λ h. FlatHolds h x w) hs
    → AllByRecursion (PairHolds hs x w) hs → OverAbscissa hs x w p
eliminated hs x w p flat pairs =
    let us = lines high_of x w hs in
    let goes : AllByRecursion (λ h. IfSome (low_of h) (λ l. GoesWithAll us (line_of x w l))) hs = all_weaker (PairHolds hs x w)
    (λ h. IfSome (low_of h) (λ l. GoesWithAll us (line_of x w l)))
    (λ h k. some_both (λ l. pos 0 <ℤ l.b) (λ l. AllByRecursion (λ g. IfSome (high_of g) (λ u. Compatible l u x w)) hs)
    (λ l. GoesWithAll us (line_of x w l)) (low_of h) (low_rising h) k
    (λ l r c. record {
      rising = record { positive = r };
      each = lines_all (Goes (line_of x w l)) high_of x w hs
          (all_weaker (λ g. IfSome (high_of g) (λ u. Compatible l u x w))
          (λ g. IfSome (high_of g) (λ u. Goes (line_of x w l) (line_of x w u)))
          (λ g m. some_both (λ u. pos 0 <ℤ u.b) (λ u. Compatible l u x w) (λ u. Goes (line_of x w l) (line_of x w u)) (high_of g)
          (high_rising g) m (λ u s v. record { rising = record { positive = s }; with = v })) hs c);
    })) hs pairs in
    let rise : AllByRecursion IsRising us = lines_all IsRising high_of x w hs
    (all_given (λ h. IfSome (high_of h) (λ e. IsRising (line_of x w e))) (λ h. some_both (λ e. pos 0 <ℤ e.b) (λ e. pos 0 <ℤ e.b)
    (λ e. IsRising (line_of x w e)) (high_of h) (high_rising h) (high_rising h) (λ e r s. record { positive = r })) hs) in
    let found = helly (lines low_of x w hs) us (lines_all (GoesWithAll us) low_of x w hs goes) rise in
    record {
      y = found.t;
      d = found.w;
      positive = found.positive;
      within = zip_holds x w p found.t found.w found.positive hs (lines_out (AllowedBy found.t found.w) low_of x w hs found.below)
          (lines_out (AllowedBy (neg_ℤ found.t) found.w) high_of x w hs found.above) flat;
    }

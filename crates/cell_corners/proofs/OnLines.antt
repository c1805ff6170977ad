-- The ends of a cell along a line are the corners on it.
use Rattle.std.proofs.Common.{◌≡◌, ◌↔◌, ◌≢◌, ◌+◌, ◌<◌, ℤ, pos, negsuc, zero, suc, ◌+ℤ◌, ◌-ℤ◌, ◌*ℤ◌, neg_ℤ, ◌≤ℤ◌, ◌<ℤ◌, arith, refl, sym, ◌∙◌, inl, inr, ◌⊎◌, List, [], ◌∷◌, ◌++◌, subst, unsigned_abs, ℕ, length, get_or}
use Rattle.std.proofs.lemmas.Int.{ints}
use Rattle.plane_terms.specs.Lists.{Every, SomeOf}
use Rattle.plane_terms.specs.Point.{Point}
use Rattle.plane_terms.specs.HalfPlane.{HalfPlane, Says, weak_op, turned}
use Rattle.plane_terms.specs.Cell.{Cell, InCell, weak_of}
use Rattle.plane_terms.specs.declared.op.Op.{Op}
use Rattle.cell_laws.proofs.Lists.{some_append}
use Rattle.plane_terms.specs.Corners.{MeetAt, IsCorner}
use Rattle.cell_corners.specs.Listed.{value_on, corner_at, turn}
use Rattle.cell_corners.specs.Held.{HoldsOn, EndsAt, IsEndOn, IsLineOf}
use Rattle.cell_corners.proofs.Bounds.{turned_value, crosses, crosses_first, crosses_second}
use Rattle.plane_terms.specs.declared.op.Op.TheVariants.{Zero}
use Rattle.number_laws.proofs.Ring.{num, ◌⊕◌, ◌⊖◌, ◌⊗◌, same_by}
use Rattle.number_laws.proofs.Order.{product_over, square_least, zero_unscaled}

pub closed_is : (c : Cell) (p : Point) → Every (HoldsOn (corner_at p)) c ↔ InCell (weak_of c) p
closed_is [] p = (λ h. tt, λ h. tt)
closed_is (h ∷ hs) p = let e = closed_is hs p in (λ a. (a.0, e.0 a.1), λ a. (a.0, e.1 a.1))

apart_is : (a b : ℤ) → a -ℤ b ≡ pos 0 → a ≡ b
apart_is a b e = omega (arith, ints)

apart_back : (a b : ℤ) → a ≡ b → a -ℤ b ≡ pos 0
apart_back a b e = omega (arith, ints)

-- one of a half-plane and its turned one begins where another crosses its line
meets_first : (h g : HalfPlane) (p : Point) → value_on h (corner_at p) ≡ pos 0 → EndsAt h (corner_at p) g → MeetAt p h g
meets_first h g p z e = record {
  slanted = λ s. crosses_first h g e.bounds (apart_back (h.a *ℤ g.b) (g.a *ℤ h.b) s);
  first = z;
  second = e.meets;
}

meets_second : (h g : HalfPlane) (o : Op) (p : Point) → value_on h (corner_at p) ≡ pos 0 → EndsAt (turned h o) (corner_at p) g → MeetAt p h g
meets_second h g o p z e = record {
  slanted = λ s. crosses_second h g o e.bounds (apart_back (h.a *ℤ g.b) (g.a *ℤ h.b) s);
  first = z;
  second = e.meets;
}

meets_back : (h g : HalfPlane) (o : Op) (p : Point) → MeetAt p h g → EndsAt h (corner_at p) g ⊎ EndsAt (turned h o) (corner_at p) g
meets_back h g o p m = elim (crosses h g o (λ e. m.slanted (apart_is (h.a *ℤ g.b) (g.a *ℤ h.b) e))) [
  | inl a ↦ inl (record { bounds = a; meets = m.second })
  | inr b ↦ inr (record { bounds = b; meets = m.second })
]

some_first : (h : HalfPlane) (p : Point) (hs : List HalfPlane) → value_on h (corner_at p) ≡ pos 0 → SomeOf (EndsAt h (corner_at p)) hs
    → SomeOf (MeetAt p h) hs
some_first h p [] z s = s
some_first h p (g ∷ hs) z s = elim s [ inl a ↦ inl (meets_first h g p z a) | inr b ↦ inr (some_first h p hs z b) ]

some_second : (h : HalfPlane) (o : Op) (p : Point) (hs : List HalfPlane) → value_on h (corner_at p) ≡ pos 0
    → SomeOf (EndsAt (turned h o) (corner_at p)) hs → SomeOf (MeetAt p h) hs
some_second h o p [] z s = s
some_second h o p (g ∷ hs) z s = elim s [ inl a ↦ inl (meets_second h g o p z a) | inr b ↦ inr (some_second h o p hs z b) ]

some_back : (h : HalfPlane) (o : Op) (p : Point) (hs : List HalfPlane) → SomeOf (MeetAt p h) hs
    → SomeOf (EndsAt h (corner_at p)) hs ⊎ SomeOf (EndsAt (turned h o) (corner_at p)) hs
some_back h o p [] s = absurd s
some_back h o p (g ∷ hs) s = elim s [
  | inl a ↦ elim (meets_back h g o p a) [ inl b ↦ inl (inl b) | inr c ↦ inr (inl c) ]
  | inr r ↦ elim (some_back h o p hs r) [ inl b ↦ inl (inr b) | inr c ↦ inr (inr c) ]
]

-- the line of h, as some half-plane that meets at p says
on_its_line : (h : HalfPlane) (p : Point) (hs : List HalfPlane) → SomeOf (MeetAt p h) hs → value_on h (corner_at p) ≡ pos 0
on_its_line h p [] s = absurd s
on_its_line h p (g ∷ hs) s = elim s [ inl a ↦ a.first | inr b ↦ on_its_line h p hs b ]

none_turned : (v z : ℤ) → z ≡ neg_ℤ v → v ≡ pos 0 → z ≡ pos 0
none_turned v z e h = omega (arith, ints)

none_back : (v z : ℤ) → z ≡ neg_ℤ v → z ≡ pos 0 → v ≡ pos 0
none_back v z e h = omega (arith, ints)

pub ends_are : (h : HalfPlane) (o : Op) (c : Cell) (p : Point) → (IsEndOn h c (corner_at p) ⊎ IsEndOn (turned h o) c (corner_at p))
    ↔ (InCell (weak_of c) p × SomeOf (MeetAt p h) c)
ends_are h o c p =
    let k = corner_at p in (
      λ e. elim e [
        | inl a ↦ ((closed_is c p).0 a.closed, some_first h p c a.on_line a.ends)
        | inr b ↦ (
          (closed_is c p).0 b.closed,
          some_second h o p c (none_back (value_on h k) (value_on (turned h o) k) (turned_value h o k) b.on_line) b.ends,
        )
      ],
      λ m.
          let z = on_its_line h p c m.1 in
          let all = (closed_is c p).1 m.0 in
          elim (some_back h o p c m.1) [
            | inl a ↦ inl (record { closed = all; on_line = z; ends = a })
            | inr b ↦ inr (record {
              closed = all;
              on_line = none_turned (value_on h k) (value_on (turned h o) k) (turned_value h o k) z;
              ends = b;
            })
          ],
    )

-- ---- the loop over the lines

pub found_twice : {A B C D E : Type 0} → (B ↔ (A ⊎ D)) → (C ↔ (B ⊎ E)) → {F : Type 0} → ((D ⊎ E) ↔ F) → C ↔ (A ⊎ F)
found_twice f g e = (
  λ c. elim (g.0 c) [
    | inl b ↦ elim (f.0 b) [ inl a ↦ inl a | inr d ↦ inr (e.0 (inl d)) ]
    | inr x ↦ inr (e.0 (inr x))
  ],
  λ s. elim s [
    | inl a ↦ g.1 (inl (f.1 (inl a)))
    | inr x ↦ elim (e.1 x) [ inl d ↦ g.1 (inl (f.1 (inr d))) | inr y ↦ g.1 (inr y) ]
  ],
)

pub lines_more : (p : Point) (c : Cell) (hs : List HalfPlane) (h : HalfPlane) (S T : Type 0)
    → (S ↔ (InCell (weak_of c) p × SomeOf (λ h. SomeOf (λ g. MeetAt p h g) c) hs)) → (T ↔ (S ⊎ (InCell (weak_of c) p × SomeOf (MeetAt p h) c)))
    → T ↔ (InCell (weak_of c) p × SomeOf (λ h. SomeOf (λ g. MeetAt p h g) c) (hs ++ h ∷ []))
lines_more p c hs h S T s t =
    let P : HalfPlane → Type 0 = λ h. SomeOf (λ g. MeetAt p h g) c in
    let e = some_append P hs (h ∷ []) in (
      λ x. elim (t.0 x) [
        | inl a ↦ let b = s.0 a in (b.0, e.1 (inl b.1))
        | inr b ↦ (b.0, e.1 (inr (inl b.1)))
      ],
      λ y. elim (e.0 y.1) [
        | inl a ↦ t.1 (inl (s.1 (y.0, a)))
        | inr b ↦ elim b [ inl m ↦ t.1 (inr (y.0, m)) | inr n ↦ absurd n ]
      ],
    )

pub lines_all : (p : Point) (c : Cell) (S : Type 0) → (S ↔ (InCell (weak_of c) p × SomeOf (λ h. SomeOf (λ g. MeetAt p h g) c) c))
    → IsCorner c p ↔ S
lines_all p c S s = (λ k. s.1 (k.closed, k.met), λ x. let a = s.0 x in record { closed = a.0; met = a.1 })

-- ---- a cell on a line

-- a half-plane that does not cross the line of h is parallel to it; of two that meet one crosses it
cross_zero : (h g m : HalfPlane) → turn h g ≡ pos 0 → turn h m ≡ pos 0 → pos 0 <ℤ (h.a *ℤ h.a +ℤ h.b *ℤ h.b) → turn g m ≡ pos 0
cross_zero h g m e f p =
    let r : (h.a *ℤ h.a +ℤ h.b *ℤ h.b) *ℤ turn g m ≡ (h.a *ℤ g.a +ℤ h.b *ℤ g.b) *ℤ turn h m -ℤ (h.a *ℤ m.a +ℤ h.b *ℤ m.b) *ℤ turn h g =
    same_by ((num h.a ⊗ num h.a ⊕ num h.b ⊗ num h.b) ⊗ (num g.a ⊗ num m.b ⊖ num m.a ⊗ num g.b))
    ((num h.a ⊗ num g.a ⊕ num h.b ⊗ num g.b) ⊗ (num h.a ⊗ num m.b ⊖ num m.a ⊗ num h.b) ⊖
    (num h.a ⊗ num m.a ⊕ num h.b ⊗ num m.b) ⊗ (num h.a ⊗ num g.b ⊖ num g.a ⊗ num h.b)) (omega arith) in
    zero_unscaled (h.a *ℤ h.a +ℤ h.b *ℤ h.b) (turn g m) p (rw (e, f) at r ∙ none (h.a *ℤ g.a +ℤ h.b *ℤ g.b) (h.a *ℤ m.a +ℤ h.b *ℤ m.b))
  where
    none : (x y : ℤ) → x *ℤ pos 0 -ℤ y *ℤ pos 0 ≡ pos 0
    none x y = same_by (num x ⊗ num (pos 0) ⊖ num y ⊗ num (pos 0)) (num (pos 0)) (omega arith)

squares_over : (a b : ℤ) → 0 < unsigned_abs a + unsigned_abs b → pos 0 <ℤ (a *ℤ a +ℤ b *ℤ b)
squares_over (pos zero) b h = first b (over b (omega (arith, ints)))
  where
    over : (b : ℤ) → 0 < unsigned_abs b → pos 0 <ℤ (b *ℤ b)
    over (pos zero) h = absurd (omega arith)
    over (pos (suc n)) h = product_over (pos (suc n)) (pos (suc n)) (omega (arith, ints)) (omega (arith, ints))
    over (negsuc n) h = omega (arith, ints)

    first : (b : ℤ) → pos 0 <ℤ (b *ℤ b) → pos 0 <ℤ (pos 0 *ℤ pos 0 +ℤ b *ℤ b)
    first b h = subst (λ z. pos 0 <ℤ z) (same_by (num b ⊗ num b) (num (pos 0) ⊗ num (pos 0) ⊕ num b ⊗ num b) (omega arith)) h
squares_over (pos (suc a)) b h =
    more (pos (suc a) *ℤ pos (suc a)) (b *ℤ b) (product_over (pos (suc a)) (pos (suc a)) (omega (arith, ints)) (omega (arith, ints))) (square_least b)
  where
    more : (x y : ℤ) → pos 0 <ℤ x → pos 0 ≤ℤ y → pos 0 <ℤ (x +ℤ y)
    more x y h k = omega (arith, ints)
squares_over (negsuc a) b h = more (negsuc a *ℤ negsuc a) (b *ℤ b) (omega (arith, ints)) (square_least b)
  where
    more : (x y : ℤ) → pos 0 <ℤ x → pos 0 ≤ℤ y → pos 0 <ℤ (x +ℤ y)
    more x y h k = omega (arith, ints)

at_zero : (v : ℤ) → (v ≡ pos 0) ⊎ (v ≢ pos 0)
at_zero (pos zero) = inl refl
at_zero (pos (suc n)) = inr (λ e. absurd (omega (arith, ints)))
at_zero (negsuc n) = inr (λ e. absurd (omega (arith, ints)))

turn_is_apart : (h g : HalfPlane) → turn h g ≢ pos 0 → h.a *ℤ g.b ≢ g.a *ℤ h.b
turn_is_apart h g n e = n (apart_back (h.a *ℤ g.b) (g.a *ℤ h.b) e)

-- of two half-planes that meet at a point of the line of h one meets it there
one_meets : (h g m : HalfPlane) (p : Point) → 0 < unsigned_abs h.a + unsigned_abs h.b → value_on h (corner_at p) ≡ pos 0 → MeetAt p g m
    → MeetAt p h g ⊎ MeetAt p h m
one_meets h g m p slanted z t = elim (at_zero (turn h g)) [
  | inl e ↦ elim (at_zero (turn h m)) [
    | inl f ↦ absurd (t.slanted (apart_is (g.a *ℤ m.b) (m.a *ℤ g.b) (cross_zero h g m e f (squares_over h.a h.b slanted))))
    | inr n ↦ inr (record { slanted = turn_is_apart h m n; first = z; second = t.second })
  ]
  | inr n ↦ inl (record { slanted = turn_is_apart h g n; first = z; second = t.first })
]

inner_meets : (h g : HalfPlane) (p : Point) (hs : List HalfPlane) → 0 < unsigned_abs h.a + unsigned_abs h.b → value_on h (corner_at p) ≡ pos 0
    → SomeOf (λ m. MeetAt p g m) hs → MeetAt p h g ⊎ SomeOf (MeetAt p h) hs
inner_meets h g p [] s z m = absurd m
inner_meets h g p (m ∷ ms) s z a = elim a [
  | inl t ↦ elim (one_meets h g m p s z t) [ inl x ↦ inl x | inr y ↦ inr (inl y) ]
  | inr r ↦ elim (inner_meets h g p ms s z r) [ inl x ↦ inl x | inr y ↦ inr (inr y) ]
]

some_meets : (h : HalfPlane) (p : Point) (c hs : List HalfPlane) → 0 < unsigned_abs h.a + unsigned_abs h.b → value_on h (corner_at p) ≡ pos 0
    → SomeOf (λ g. SomeOf (λ m. MeetAt p g m) c) hs → SomeOf (MeetAt p h) hs ⊎ SomeOf (MeetAt p h) c
some_meets h p c [] s z a = absurd a
some_meets h p c (g ∷ gs) s z a = elim a [
  | inl x ↦ elim (inner_meets h g p c s z x) [ inl y ↦ inl (inl y) | inr y ↦ inr y ]
  | inr r ↦ elim (some_meets h p c gs s z r) [ inl y ↦ inl (inr y) | inr y ↦ inr y ]
]

line_zero : (h : HalfPlane) (p : Point) (hs : List HalfPlane) → h.op ≡ Zero → SomeOf (λ g. g ≡ h) hs → Every (HoldsOn (corner_at p)) hs
    → value_on h (corner_at p) ≡ pos 0
line_zero h p [] e s a = absurd s
line_zero h p (g ∷ gs) e s a = elim s [
  | inl same ↦
      let says : Says (weak_op h.op) (value_on h (corner_at p)) = subst (λ (k : HalfPlane). HoldsOn (corner_at p) k) same a.0 in
      subst (λ (o : Op). Says (weak_op o) (value_on h (corner_at p))) e says
  | inr r ↦ line_zero h p gs e r a.1
]

some_with : (h : HalfPlane) (P : HalfPlane → Type 0) (hs : List HalfPlane) → SomeOf (λ g. g ≡ h) hs → P h → SomeOf P hs
some_with h P [] s q = s
some_with h P (g ∷ gs) s q = elim s [ inl e ↦ inl (subst P (sym e) q) | inr r ↦ inr (some_with h P gs r q) ]

pub on_line_all : (h : HalfPlane) (c : Cell) (p : Point) (S : Type 0) → IsLineOf c h
    → (S ↔ (InCell (weak_of c) p × SomeOf (MeetAt p h) c)) → IsCorner c p ↔ S
on_line_all h c p S l f = (
  λ k.
      let z = line_zero h p c l.line l.among ((closed_is c p).1 k.closed) in
      f.1 (k.closed, elim (some_meets h p c c l.valid.slanted z k.met) [ inl a ↦ a | inr b ↦ b ]),
  λ x.
      let a = f.0 x in record {
        closed = a.0;
        met = some_with h (λ g. SomeOf (λ m. MeetAt p g m) c) c l.among a.1;
      },
)

pub among_by : (hs : List HalfPlane) (i : ℕ) (h : HalfPlane) → i < length hs → h ≡ get_or hs i h → SomeOf (λ g. g ≡ h) hs
among_by [] i h l e = absurd (omega arith)
among_by (g ∷ gs) zero h l e = inl (sym e)
among_by (g ∷ gs) (suc i) h l e = inr (among_by gs i h (omega arith) e)

pub from_none : {A B C : Type 0} → (A → ⊥) → (C ↔ (A ⊎ B)) → C ↔ B
from_none n f = (λ c. elim (f.0 c) [ inl a ↦ absurd (n a) | inr b ↦ b ], λ b. f.1 (inr b))

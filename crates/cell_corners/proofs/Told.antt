-- The corners of a cell, as they are told: the same points in the same order.
use Rattle.std.proofs.Common.{◌≡◌, ◌↔◌, inl, inr, ℕ, zero, suc, ◌+◌, ◌<◌, ℤ, pos, ◌*ℤ◌, ◌≤ℤ◌, ◌<ℤ◌, List, [], ◌∷◌, ◌++◌, take, refl, sym, ap, ◌∙◌, subst, arith, append_assoc, append-nil, add-one, Some}
use Rattle.std.specs.Prelude.{slice_get}
use Rattle.std.proofs.lemmas.Int.{ints}
use Rattle.plane_terms.specs.Lists.{Every, EveryPair, SomeOf, Paired}
use Rattle.plane_terms.specs.Point.{Point}
use Rattle.plane_terms.specs.Cell.{Cell}
use Rattle.plane_terms.specs.Corners.{IsCorner}
use Rattle.corner_terms.specs.CornerLists.{LiesAt, IsLess, IsBefore, IsTold, AreTold, AreOfCell, AreOfCells}
use Rattle.corner_terms.specs.declared.cell_corner.Fraction.{Fraction}
use Rattle.corner_terms.specs.declared.cell_corner.CellCorner.{CellCorner}
use Rattle.cell_corners.specs.declared.corner.Corner.{Corner}
use Rattle.cell_corners.specs.Listed.{IsFit, Same, corner_at, Stands, ComesBefore, AreAscending}
use Rattle.cell_corners.specs.Fractions.{IsFraction, IsToldAs}
use Rattle.cell_corners.proofs.Ascents.{first_less, second_less, both_same}

over_pos : (n : ℕ) → 0 < n → pos 0 <ℤ pos n
over_pos n h = omega (arith, ints)

least_of : (x y : ℤ) → x ≡ y → x ≤ℤ y
least_of x y e = omega (arith, ints)

-- ---- one corner
pub told_once : (i : ℕ) (k : Corner) (t : CellCorner) → IsToldAs i k t → IsTold i t
told_once i k t h = record {
  cell = h.cell;
  x = record { over = h.x.over; lowest = h.x.lowest };
  y = record { over = h.y.over; lowest = h.y.lowest };
}

-- x / w is p / q just where the fraction of it is
lies_in : (x w p q : ℤ) (f : Fraction) → pos 0 <ℤ w → IsFraction x w f → x *ℤ q ≡ p *ℤ w → f.n *ℤ q ≡ p *ℤ pos f.d
lies_in x w p q f o h e = both_same f.n (pos f.d) x w p q o h.same e

lies_out : (x w p q : ℤ) (f : Fraction) → IsFraction x w f → f.n *ℤ q ≡ p *ℤ pos f.d → x *ℤ q ≡ p *ℤ w
lies_out x w p q f h e = both_same x w f.n (pos f.d) p q (over_pos f.d h.over) (sym h.same) e

lies : (i : ℕ) (k : Corner) (t : CellCorner) (p : Point) → IsFit k → IsToldAs i k t → Same k (corner_at p) ↔ LiesAt p t
lies i k t p f h = (
  λ s. record { x = lies_in k.x k.w p.x (pos p.w) t.x f.over h.x s.x; y = lies_in k.y k.w p.y (pos p.w) t.y f.over h.y s.y },
  λ l. record { x = lies_out k.x k.w p.x (pos p.w) t.x h.x l.x; y = lies_out k.y k.w p.y (pos p.w) t.y h.y l.y },
)

-- ---- their order
less : (x w u v : ℤ) (f g : Fraction) → pos 0 <ℤ w → pos 0 <ℤ v → IsFraction x w f → IsFraction u v g → (x *ℤ v) <ℤ (u *ℤ w) → IsLess f g
less x w u v f g p q h k l =
    let a = second_less f.n (pos f.d) x w u v (over_pos f.d h.over) p q (least_of (f.n *ℤ w) (x *ℤ pos f.d) h.same) l in
    first_less f.n (pos f.d) u v g.n (pos g.d) (over_pos f.d h.over) q (over_pos g.d k.over) a (least_of (u *ℤ pos g.d) (g.n *ℤ v) (sym k.same))

level : (x w u v : ℤ) (f g : Fraction) → pos 0 <ℤ w → pos 0 <ℤ v → IsFraction x w f → IsFraction u v g → x *ℤ v ≡ u *ℤ w
    → f.n *ℤ pos g.d ≡ g.n *ℤ pos f.d
level x w u v f g p q h k e =
    both_same f.n (pos f.d) u v g.n (pos g.d) q (both_same f.n (pos f.d) x w u v p h.same e) (sym k.same)

before : (i : ℕ) (k l : Corner) (s t : CellCorner) → IsFit k → IsFit l → IsToldAs i k s → IsToldAs i l t → ComesBefore k l → IsBefore s t
before i k l s t f g a b c = elim c [
  | inl h ↦ inl (less k.x k.w l.x l.w s.x t.x f.over g.over a.x b.x h)
  | inr h ↦ inr (
    level k.x k.w l.x l.w s.x t.x f.over g.over a.x b.x h.0,
    less k.y k.w l.y l.w s.y t.y f.over g.over a.y b.y h.1,
  )
]

-- ---- all of them
all_told : (i : ℕ) (ks : List Corner) (ts : List CellCorner) → Paired (IsToldAs i) ks ts → Every (IsTold i) ts
all_told i [] [] h = tt
all_told i [] (t ∷ ts) h = absurd h
all_told i (k ∷ ks) [] h = absurd h
all_told i (k ∷ ks) (t ∷ ts) h = (told_once i k t h.0, all_told i ks ts h.1)

all_before : (i : ℕ) (k : Corner) (t : CellCorner) (ks : List Corner) (ts : List CellCorner) → IsFit k → Every IsFit ks → IsToldAs i k t
    → Paired (IsToldAs i) ks ts → Every (ComesBefore k) ks → Every (IsBefore t) ts
all_before i k t [] [] f g a h b = tt
all_before i k t [] (u ∷ ts) f g a h b = absurd h
all_before i k t (l ∷ ks) [] f g a h b = absurd h
all_before i k t (l ∷ ks) (u ∷ ts) f g a h b = (before i k l t u f g.0 a h.0 b.0, all_before i k t ks ts f g.1 a h.1 b.1)

all_ascend : (i : ℕ) (ks : List Corner) (ts : List CellCorner) → Every IsFit ks → Paired (IsToldAs i) ks ts → AreAscending ks
    → EveryPair IsBefore ts
all_ascend i [] [] f h a = tt
all_ascend i [] (t ∷ ts) f h a = absurd h
all_ascend i (k ∷ ks) [] f h a = absurd h
all_ascend i (k ∷ ks) (t ∷ ts) f h a = (all_before i k t ks ts f.0 f.1 h.0 h.1 a.0, all_ascend i ks ts f.1 h.1 a.1)

some_lie : (i : ℕ) (ks : List Corner) (ts : List CellCorner) (p : Point) → Every IsFit ks → Paired (IsToldAs i) ks ts
    → Stands ks p ↔ SomeOf (LiesAt p) ts
some_lie i [] [] p f h = (λ s. s, λ s. s)
some_lie i [] (t ∷ ts) p f h = absurd h
some_lie i (k ∷ ks) [] p f h = absurd h
some_lie i (k ∷ ks) (t ∷ ts) p f h =
    let here = lies i k t p f.0 h.0 in
    let there = some_lie i ks ts p f.1 h.1 in (
      λ s. elim s [ inl a ↦ inl (here.0 a) | inr b ↦ inr (there.0 b) ],
      λ s. elim s [ inl a ↦ inl (here.1 a) | inr b ↦ inr (there.1 b) ],
    )

pub told_of : (i : ℕ) (c : Cell) (ks : List Corner) (ts : List CellCorner) → Every IsFit ks → AreAscending ks
    → ((p : Point) → IsCorner c p ↔ Stands ks p) → Paired (IsToldAs i) ks ts → AreTold i c ts
told_of i c ks ts f a e h = record {
  told = all_told i ks ts h;
  ascending = all_ascend i ks ts f h a;
  exact = λ p. let s = some_lie i ks ts p f h in (λ x. s.0 ((e p).0 x), λ x. (e p).1 (s.1 x));
}

-- ---- one more, and a cell more
pub fit_at : (ks : List Corner) (i : ℕ) (k : Corner) → Every IsFit ks → slice_get ks i ≡ Some k → IsFit k
fit_at [] i k f e = cc
fit_at (l ∷ ks) zero k f e = let same : l ≡ k = cc in subst IsFit same f.0
fit_at (l ∷ ks) (suc i) k f e = fit_at ks i k f.1 e

paired_more : {A B : Type 0} (R : A → B → Type 0) (xs : List A) (ys : List B) (i : ℕ) (x : A) (y : B) → slice_get xs i ≡ Some x
    → Paired R (take i xs) ys → R x y → Paired R (take (suc i) xs) (ys ++ y ∷ [])
paired_more R [] ys i x y e p r = cc
paired_more R (z ∷ xs) [] zero x y e p r = let same : z ≡ x = cc in (subst (λ v. R v y) (sym same) r, tt)
paired_more R (z ∷ xs) (w ∷ ys) zero x y e p r = absurd p
paired_more R (z ∷ xs) [] (suc i) x y e p r = absurd p
paired_more R (z ∷ xs) (w ∷ ys) (suc i) x y e p r = (p.0, paired_more R xs ys i x y e p.1 r)

pub told_more : (n : ℕ) (ks : List Corner) (i : ℕ) (k : Corner) (t : CellCorner) (start old new : List CellCorner) → slice_get ks i ≡ Some k
    → IsToldAs n k t → (more : List CellCorner) × (old ≡ start ++ more) × Paired (IsToldAs n) (take i ks) more → new ≡ old ++ t ∷ []
    → (more : List CellCorner) × (new ≡ start ++ more) × Paired (IsToldAs n) (take (i + 1) ks) more
told_more n ks i k t start old new e h b g = (
  b.0 ++ t ∷ [],
  g ∙ (ap (λ (x : List CellCorner). x ++ t ∷ []) b.1 ∙ append_assoc start b.0 (t ∷ [])),
  rw add-one (paired_more (IsToldAs n) ks b.0 i k t e b.2 h),
)

-- behind the corners of the first cells those of the next
pub cells_more : (n : ℕ) (cs : List Cell) (i : ℕ) (c : Cell) (ks ls : List CellCorner) → slice_get cs i ≡ Some c
    → AreOfCells n (take i cs) ks → AreOfCell (n + i) c ls → AreOfCells n (take (suc i) cs) (ks ++ ls)
cells_more n [] i c ks ls e a b = cc
cells_more n (d ∷ cs) zero c ks ls e a b =
    let same : d ≡ c = cc in
    let one : AreOfCell n d ls = subst (λ (x : Cell). AreOfCell n x ls) (sym same) (subst (λ m. AreOfCell m c ls) (omega arith) b) in
    (ls, [], ap (λ (x : List CellCorner). x ++ ls) a ∙ sym (append-nil ls), one, refl)
cells_more n (d ∷ cs) (suc i) c ks ls e (first, rest, is, own, others) b = (
  first,
  rest ++ ls,
  ap (λ (x : List CellCorner). x ++ ls) is ∙ append_assoc first rest ls,
  own,
  cells_more (suc n) cs i c rest ls e others (subst (λ m. AreOfCell m c ls) (omega arith) b),
)

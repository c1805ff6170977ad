-- What the tests of segments and places say.
use Rattle.std.proofs.Common.{◌≡◌, ◌↔◌, ◌⊎◌, inl, inr, ℕ, ◌+◌, ◌≤◌, ℤ, pos, ◌-ℤ◌, ◌*ℤ◌, ◌≤ℤ◌, ◌<ℤ◌, Bool, true, false, refl, sym, ◌∙◌, List, [], ◌∷◌, Some, ap, take, length, get_or, cond, arith, ◌&&◌, ◌||◌}
use Rattle.std.specs.Prelude.{slice_get}
use Rattle.std.specs.List.{list_any}
use Rattle.std.specs.Int.{int_min, int_max}
use Rattle.std.specs.Bool.{Decides}
use Rattle.std.proofs.lemmas.Bool.{false≢true, and_from}
use Rattle.std.proofs.lemmas.Bool.Decides.{Decides-and, Decides-or, Decides-int_eq}
use Rattle.std.proofs.lemmas.Int.{ints, clamps}
use Rattle.std.proofs.lemmas.List.{take_all}
use Rattle.std.proofs.lemmas.List.Folds.{list_any_more, list_any_at}
use Rattle.std.proofs.lemmas.Option.{get_or_from_slice_get, slice_get_within}
use Rattle.plane_terms.specs.Lists.{Every, SomeOf}
use Rattle.plane_terms.specs.Point.{Place, Point, IsAt, same_place, point_at}
use Rattle.plane_terms.specs.Rectangle.{Rectangle}
use Rattle.plane_terms.specs.Segment.{Segment, IsSegment, OnSegment, IsBetween, Overlap, overlap, is_in_line, comes_before, box_of}
use Rattle.plane_terms.specs.Line.{holds_place, box_holds}
use Rattle.plane_terms.specs.Share.{turn, one_side, share_on_line, is_beside, is_parallel, has_end_on, share_of}
use Rattle.plane_terms.specs.declared.share.Share.{Share}
use Rattle.plane_terms.specs.declared.share.Share.TheVariants.{Nothing, Along, Cross, Touch}
use Rattle.topology_terms.specs.Tests.{has_end_at, holds_at}
use Rattle.number_laws.proofs.Ring.{num, ◌⊖◌, ◌⊗◌, same_by}
use Rattle.number_laws.proofs.Order.{cases_order_ℤ, zero_unscaled, le_from_scaled}
use Rattle.number_laws.proofs.Tests.{Decides-int_le, Decides-int_lt}
use Rattle.cell_laws.proofs.Meeting.{turns_differ, turn_zero}
use Rattle.cell_laws.proofs.OnLine.{OnOneLine}
use Rattle.cell_laws.proofs.Shares.{read_before, share_of-means, exactly}
use Rattle.cell_laws.proofs.AtPlaces.{same_is, is_same, on_all_at}
use Rattle.cell_laws.proofs.OnLine as on_line
use Rattle.cell_laws.proofs.Envelope as envelope
use Rattle.rule_laws.proofs.Places.{place_one}
use Rattle.plane_terms.proofs.Truths.{both_parts, all_four}

-- ---- two segments on one line
turned_x : (sx sy hx hy tx ty ux uy : ℤ) → (hx -ℤ sx) *ℤ ((ux -ℤ tx) *ℤ (sy -ℤ ty) -ℤ (uy -ℤ ty) *ℤ (sx -ℤ tx))
    ≡ (tx -ℤ sx) *ℤ (((hx -ℤ sx) *ℤ (uy -ℤ sy) -ℤ (hy -ℤ sy) *ℤ (ux -ℤ sx)) -ℤ ((hx -ℤ sx) *ℤ (ty -ℤ sy) -ℤ (hy -ℤ sy) *ℤ (tx -ℤ sx))) -ℤ
    (ux -ℤ tx) *ℤ ((hx -ℤ sx) *ℤ (ty -ℤ sy) -ℤ (hy -ℤ sy) *ℤ (tx -ℤ sx))
turned_x sx sy hx hy tx ty ux uy =
    same_by ((num hx ⊖ num sx) ⊗ ((num ux ⊖ num tx) ⊗ (num sy ⊖ num ty) ⊖ (num uy ⊖ num ty) ⊗ (num sx ⊖ num tx)))
    ((num tx ⊖ num sx) ⊗
    (((num hx ⊖ num sx) ⊗ (num uy ⊖ num sy) ⊖ (num hy ⊖ num sy) ⊗ (num ux ⊖ num sx)) ⊖
    ((num hx ⊖ num sx) ⊗ (num ty ⊖ num sy) ⊖ (num hy ⊖ num sy) ⊗ (num tx ⊖ num sx))) ⊖ (num ux ⊖ num tx) ⊗
    ((num hx ⊖ num sx) ⊗ (num ty ⊖ num sy) ⊖ (num hy ⊖ num sy) ⊗ (num tx ⊖ num sx))) (omega arith)

turned_y : (sx sy hx hy tx ty ux uy : ℤ) → (hy -ℤ sy) *ℤ ((ux -ℤ tx) *ℤ (sy -ℤ ty) -ℤ (uy -ℤ ty) *ℤ (sx -ℤ tx))
    ≡ (ty -ℤ sy) *ℤ (((hx -ℤ sx) *ℤ (uy -ℤ sy) -ℤ (hy -ℤ sy) *ℤ (ux -ℤ sx)) -ℤ ((hx -ℤ sx) *ℤ (ty -ℤ sy) -ℤ (hy -ℤ sy) *ℤ (tx -ℤ sx))) -ℤ
    (uy -ℤ ty) *ℤ ((hx -ℤ sx) *ℤ (ty -ℤ sy) -ℤ (hy -ℤ sy) *ℤ (tx -ℤ sx))
turned_y sx sy hx hy tx ty ux uy =
    same_by ((num hy ⊖ num sy) ⊗ ((num ux ⊖ num tx) ⊗ (num sy ⊖ num ty) ⊖ (num uy ⊖ num ty) ⊗ (num sx ⊖ num tx)))
    ((num ty ⊖ num sy) ⊗
    (((num hx ⊖ num sx) ⊗ (num uy ⊖ num sy) ⊖ (num hy ⊖ num sy) ⊗ (num ux ⊖ num sx)) ⊖
    ((num hx ⊖ num sx) ⊗ (num ty ⊖ num sy) ⊖ (num hy ⊖ num sy) ⊗ (num tx ⊖ num sx))) ⊖ (num uy ⊖ num ty) ⊗
    ((num hx ⊖ num sx) ⊗ (num ty ⊖ num sy) ⊖ (num hy ⊖ num sy) ⊗ (num tx ⊖ num sx))) (omega arith)

nought : (z u v a b : ℤ) → z ≡ u *ℤ (b -ℤ a) -ℤ v *ℤ a → a ≡ pos 0 → b ≡ pos 0 → z ≡ pos 0
nought z u v a b e h k = e ∙ rw (h, k) (omega (arith, ints))

back_zero : (s t : Segment) → IsSegment s → turn s t.lo ≡ pos 0 → turn s t.hi ≡ pos 0 → turn t s.lo ≡ pos 0
back_zero s t g h k = elim g.ordered [
  | inl o ↦ zero_unscaled (s.hi.x -ℤ s.lo.x) (turn t s.lo) (omega (arith, ints, o))
      (nought _ (t.lo.x -ℤ s.lo.x) (t.hi.x -ℤ t.lo.x) (turn s t.lo) (turn s t.hi)
      (turned_x s.lo.x s.lo.y s.hi.x s.hi.y t.lo.x t.lo.y t.hi.x t.hi.y) h k)
  | inr o ↦ zero_unscaled (s.hi.y -ℤ s.lo.y) (turn t s.lo) (omega (arith, ints, o.1))
      (nought _ (t.lo.y -ℤ s.lo.y) (t.hi.y -ℤ t.lo.y) (turn s t.lo) (turn s t.hi)
      (turned_y s.lo.x s.lo.y s.hi.x s.hi.y t.lo.x t.lo.y t.hi.x t.hi.y) h k)
]

in_line_from : (s : Segment) (q : Place) → is_in_line s q ≡ true → turn s q ≡ pos 0
in_line_from s q t =
    let e = (Decides-int_eq ((s.hi.x -ℤ s.lo.x) *ℤ (q.y -ℤ s.lo.y)) ((s.hi.y -ℤ s.lo.y) *ℤ (q.x -ℤ s.lo.x))).0 t in
    gone ((s.hi.x -ℤ s.lo.x) *ℤ (q.y -ℤ s.lo.y)) ((s.hi.y -ℤ s.lo.y) *ℤ (q.x -ℤ s.lo.x)) e
  where
    gone : (u v : ℤ) → u ≡ v → u -ℤ v ≡ pos 0
    gone u v e = omega (arith, ints)

in_line_test : (s : Segment) (q : Place) → turn s q ≡ pos 0 → is_in_line s q ≡ true
in_line_test s q z =
    (Decides-int_eq ((s.hi.x -ℤ s.lo.x) *ℤ (q.y -ℤ s.lo.y)) ((s.hi.y -ℤ s.lo.y) *ℤ (q.x -ℤ s.lo.x))).1
    (same ((s.hi.x -ℤ s.lo.x) *ℤ (q.y -ℤ s.lo.y)) ((s.hi.y -ℤ s.lo.y) *ℤ (q.x -ℤ s.lo.x)) z)
  where
    same : (u v : ℤ) → u -ℤ v ≡ pos 0 → u ≡ v
    same u v e = omega (arith, ints)

all_true : (a b c d : Bool) → a ≡ true → b ≡ true → c ≡ true → d ≡ true → (a && (b && (c && d))) ≡ true
all_true a b c d e f g h = rw (e, f, g, h) refl

overlap_from : (s t : Segment) → IsSegment s → IsSegment t → overlap s t ≡ true → Overlap s t
overlap_from s t g h e =
    let k = all_four (is_in_line s t.lo) (is_in_line s t.hi) (comes_before s.lo t.hi) (comes_before t.lo s.hi) e in
    let c = in_line_from s t.lo k.0 in
    let d = in_line_from s t.hi k.1 in
    let a = back_zero s t g c d in
    let b : turn t s.hi ≡ pos 0 = last (turn t s.lo) (turn t s.hi) (turn s t.hi) (turn s t.lo) (turns_differ s t) a c d in
    on_line.overlap s t g h (record { a = a; b = b; c = c; d = d }) (read_before t.lo s.hi k.3) (read_before s.lo t.hi k.2)
  where
    last : (x y u v : ℤ) → x -ℤ y ≡ u -ℤ v → x ≡ pos 0 → v ≡ pos 0 → u ≡ pos 0 → y ≡ pos 0
    last x y u v e f g h = omega (arith, ints)

-- ---- the other way, by the answer of two segments
along_only : (a b c d e : Bool) (line : Share) → cond (a || b) Nothing (cond c line (cond (d || e) Touch Cross)) ≡ Along
    → (a ≡ false) × (b ≡ false) × (c ≡ true) × (line ≡ Along)
along_only true b c d e line q = cc
along_only false true c d e line q = cc
along_only false false true d e line q = (refl, refl, refl, q)
along_only false false false true e line q = cc
along_only false false false false true line q = cc
along_only false false false false false line q = cc

line_only : (a b c d : Bool) → cond (a || b) Nothing (cond (c && d) Along Touch) ≡ Along → (c ≡ true) × (d ≡ true)
line_only true b c d q = cc
line_only false true c d q = cc
line_only false false true true q = (refl, refl)
line_only false false true false q = cc
line_only false false false d q = cc

one_side_test : (a b : ℤ) → ((pos 0 <ℤ a) × (pos 0 <ℤ b)) ⊎ ((a <ℤ pos 0) × (b <ℤ pos 0)) → one_side a b ≡ true
one_side_test a b h =
    (Decides-or _ _ (Decides-and _ _ (Decides-int_lt (pos 0) a) (Decides-int_lt (pos 0) b))
    (Decides-and _ _ (Decides-int_lt a (pos 0)) (Decides-int_lt b (pos 0)))).1 h

zero_by : (a b : ℤ) → a ≡ b → one_side a b ≡ false → a ≡ pos 0
zero_by a b e n = elim (cases_order_ℤ (pos 0) a) [
  | inl h ↦ absurd (false≢true (sym n ∙ one_side_test a b (inl (h, omega (arith, ints)))))
  | inr h ↦ elim (cases_order_ℤ a (pos 0)) [
    | inl k ↦ absurd (false≢true (sym n ∙ one_side_test a b (inr (k, omega (arith, ints)))))
    | inr k ↦ omega (arith, ints)
  ]
]

overlap_to : (s t : Segment) → IsSegment s → IsSegment t → Overlap s t → overlap s t ≡ true
unfolding share_of
overlap_to s t g h o =
    let along : share_of s t ≡ Along = (exactly (share_of s t) s t (share_of-means s t g h) Along).1 o in
    let k = along_only (is_beside s t) (is_beside t s) (is_parallel s t) (has_end_on s t) (has_end_on t s) (share_on_line s t) along in
    let l = line_only (comes_before s.hi t.lo) (comes_before t.hi s.lo) (comes_before t.lo s.hi) (comes_before s.lo t.hi) k.3 in
    let same : turn t s.lo ≡ turn t s.hi = (Decides-int_eq (turn t s.lo) (turn t s.hi)).0 k.2 in
    let also : turn s t.lo ≡ turn s t.hi = even (turn t s.lo) (turn t s.hi) (turn s t.hi) (turn s t.lo) (turns_differ s t) same in
    let c : turn s t.lo ≡ pos 0 = zero_by (turn s t.lo) (turn s t.hi) also k.1 in
    let d : turn s t.hi ≡ pos 0 = sym also ∙ c in
    all_true (is_in_line s t.lo) (is_in_line s t.hi) (comes_before s.lo t.hi) (comes_before t.lo s.hi) (in_line_test s t.lo c)
    (in_line_test s t.hi d) l.1 l.0
  where
    even : (x y u v : ℤ) → x -ℤ y ≡ u -ℤ v → x ≡ y → v ≡ u
    even x y u v e f = omega (arith, ints)

pub overlap_test : (s t : Segment) → IsSegment s → IsSegment t → (overlap s t ≡ true) ↔ Overlap s t
overlap_test s t g h = (overlap_from s t g h, overlap_to s t g h)

-- ---- a place on a segment
Decides-box : (r : Rectangle) (q : Place) → Decides (box_holds r q) ((r.x0 ≤ℤ q.x) × ((q.x ≤ℤ r.x1) × ((r.y0 ≤ℤ q.y) × (q.y ≤ℤ r.y1))))
Decides-box r q = Decides-and _ _ (Decides-int_le r.x0 q.x)
    (Decides-and _ _ (Decides-int_le q.x r.x1) (Decides-and _ _ (Decides-int_le r.y0 q.y) (Decides-int_le q.y r.y1)))

between : (a b v : ℤ) → int_min a b ≤ℤ v → v ≤ℤ int_max a b → IsBetween (a *ℤ pos 1) (b *ℤ pos 1) v
between a b v h k = elim (cases_order_ℤ b a) [
  | inl o ↦ inr (omega (arith, ints, clamps), omega (arith, ints, clamps))
  | inr o ↦
      inl (omega (arith, ints, clamps), omega (arith, ints, clamps))
]

pub straight : (lx ly hx hy x y : ℤ)
    → (hx -ℤ lx) *ℤ (y -ℤ ly *ℤ pos 1) -ℤ (hy -ℤ ly) *ℤ (x -ℤ lx *ℤ pos 1) ≡ (hx -ℤ lx) *ℤ (y -ℤ ly) -ℤ (hy -ℤ ly) *ℤ (x -ℤ lx)
straight lx ly hx hy x y =
    same_by ((num hx ⊖ num lx) ⊗ (num y ⊖ num ly ⊗ num (pos 1)) ⊖ (num hy ⊖ num ly) ⊗ (num x ⊖ num lx ⊗ num (pos 1)))
    ((num hx ⊖ num lx) ⊗ (num y ⊖ num ly) ⊖ (num hy ⊖ num ly) ⊗ (num x ⊖ num lx)) (omega arith)

on_place : (t : Segment) (q : Place) → holds_place t q ≡ true → OnSegment t (point_at q)
on_place t q e =
    let k = both_parts (is_in_line t q) (box_holds (box_of t) q) e in
    let b = (Decides-box (box_of t) q).0 k.1 in
    record {
      straight = straight t.lo.x t.lo.y t.hi.x t.hi.y q.x q.y ∙ in_line_from t q k.0;
      across = inl (omega (arith, ints, b.0), omega (arith, ints, b.1.0));
      along = between t.lo.y t.hi.y q.y b.1.1.0 b.1.1.1;
    }

pub place_from : (t : Segment) (q : Place) (p : Point) → IsAt q p → holds_place t q ≡ true → OnSegment t p
place_from t q p a e = on_all_at t q (on_place t q e) p a

-- a place on the line, and in the box
pub holds_by : (t : Segment) (q : Place) → turn t q ≡ pos 0
    → ((box_of t).x0 ≤ℤ q.x) × ((q.x ≤ℤ (box_of t).x1) × (((box_of t).y0 ≤ℤ q.y) × (q.y ≤ℤ (box_of t).y1))) → holds_place t q ≡ true
holds_by t q z b = and_from (is_in_line t q) (box_holds (box_of t) q) (in_line_test t q z) ((Decides-box (box_of t) q).1 b)

pub place_test : (t : Segment) (q : Place) (p : Point) → IsSegment t → IsAt q p → OnSegment t p → holds_place t q ≡ true
place_test t q p g a o =
    let z = turn_zero t q p a o in
    let b = envelope.box_holds t p g o in
    let l = le_from_scaled (box_of t).x0 q.x p.w p.positive (rw (a.x) at b.left) in
    let r = le_from_scaled q.x (box_of t).x1 p.w p.positive (rw (a.x) at b.right) in
    let d = le_from_scaled (box_of t).y0 q.y p.w p.positive (rw (a.y) at b.below) in
    let u = le_from_scaled q.y (box_of t).y1 p.w p.positive (rw (a.y) at b.above) in
    holds_by t q z (l, (r, (d, u)))

-- ---- lists of tests
pub any_some : {A : Type 0} (U P : A → Type 0) (test : A → Bool) → ((x : A) → U x → (test x ≡ true) ↔ P x) → (xs : List A) → Every U xs
    → (list_any test xs ≡ true) ↔ SomeOf P xs
any_some U P test m [] u = (λ e. absurd (false≢true e), λ h. absurd h)
any_some U P test m (x ∷ xs) u = by_cases (test x) (m x u.0) (any_some U P test m xs u.1)
  where
    by_cases : (b : Bool) → (b ≡ true) ↔ P x → (list_any test xs ≡ true) ↔ SomeOf P xs
        → ((b || list_any test xs) ≡ true) ↔ (P x ⊎ SomeOf P xs)
    by_cases true a k = (λ e. inl (a.0 refl), λ h. refl)
    by_cases false a k = (λ e. inr (k.0 e), λ h. elim h [ inl i ↦ absurd (false≢true (a.1 i)) | inr i ↦ k.1 i ])

all_unit : {A : Type 0} (xs : List A) → Every (λ (x : A). Unit {0}) xs
all_unit [] = tt
all_unit (x ∷ xs) = (tt, all_unit xs)

pub at_test : (q r : Place) (p : Point) → IsAt q p → (same_place q r ≡ true) ↔ IsAt r p
at_test q r p a = (λ t. rw (same_is q r t) at a, λ b. is_same q r (place_one q r p a b))

pub end_test : (qs : List Place) (q : Place) (p : Point) → IsAt q p → (has_end_at qs q ≡ true) ↔ SomeOf (λ r. IsAt r p) qs
end_test qs q p a = any_some (λ (r : Place). Unit {0}) (λ r. IsAt r p) (same_place q) (λ r u. at_test q r p a) qs (all_unit qs)

pub side_test : (ss : List Segment) (q : Place) (p : Point) → Every IsSegment ss → IsAt q p
    → (holds_at ss q ≡ true) ↔ SomeOf (λ s. OnSegment s p) ss
side_test ss q p u a =
    any_some IsSegment (λ s. OnSegment s p) (λ t. holds_place t q) (λ t g. (place_from t q p a, place_test t q p g a)) ss u

-- ---- one of a list, by its place
pub any_there : {A : Type 0} (test : A → Bool) (xs : List A) (i : ℕ) (x : A) → slice_get xs i ≡ Some x → test x ≡ true
    → list_any test xs ≡ true
any_there test xs i x e t =
    let there : get_or xs i x ≡ x = get_or_from_slice_get xs i x x e in
    list_any_at test xs i x (slice_get_within xs i x e) (rw there t)

pub none_more : {A : Type 0} (test : A → Bool) (xs : List A) (i : ℕ) (x : A) → slice_get xs i ≡ Some x → test x ≡ false
    → list_any test (take i xs) ≡ false → list_any test (take (i + 1) xs) ≡ false
none_more test xs i x e t h =
    let there : get_or xs i x ≡ x = get_or_from_slice_get xs i x x e in
    list_any_more test xs i x (slice_get_within xs i x e) ∙ rw (h, there, t) refl

pub none_in_all : {A : Type 0} (test : A → Bool) (xs : List A) (i : ℕ) → length xs ≤ i → list_any test (take i xs) ≡ false
    → list_any test xs ≡ false
none_in_all test xs i l h = ap (list_any test) (sym (take_all i xs l)) ∙ h

-- What lasts a little way to the right: open cells, and the outside of a polygon, off its walls.
use Rattle.std.proofs.Common.{◌≡◌, ◌↔◌, inl, inr, ℕ, ◌+◌, ◌*◌, ◌<◌, ◌≤◌, Bool, true, false, List, [], ◌∷◌, ◌++◌, ◌⊎◌, append_assoc, ℤ, pos, ◌+ℤ◌, ◌-ℤ◌, ◌*ℤ◌, ◌≤ℤ◌, ◌<ℤ◌, arith, refl, sym, ◌∙◌, ap, subst, unsigned_abs, Option, Some, None, cond}
use Rattle.std.proofs.lemmas.Int.{ints}
use Rattle.std.proofs.lemmas.Bool.{false≢true}
use Rattle.plane_terms.specs.Lists.{Every, SomeOf}
use Rattle.plane_terms.specs.Point.{Point}
use Rattle.plane_terms.specs.HalfPlane.{HalfPlane, Holds, Says, value_at, x_over, x_under, x_is}
use Rattle.plane_terms.specs.declared.op.Op.{Op}
use Rattle.plane_terms.specs.declared.op.Op.TheVariants.{Over}
use Rattle.plane_terms.specs.Segment.{Segment, right_of}
use Rattle.plane_terms.specs.Cell.{Cell, InCell, InCells}
use Rattle.plane_terms.specs.Decide.{has_point}
use Rattle.plane_terms.specs.Carve.{kept}
use Rattle.plane_terms.specs.Columns.{abscissas, ordinates, column, over, slots, is_covered, intervals, in_column, at_wall, on_wall, wall, cells_from, last, outside_by, outside_cells}
use Rattle.plane_terms.proofs.ListLemmas.{SomeOf-append_left, SomeOf-append_right, SomeOf-either, every_append, every_filter, every_map}
use Rattle.number_laws.proofs.Ring.{num, ◌⊕◌, ◌⊖◌, ◌⊗◌, same_by}
use Rattle.number_laws.proofs.Order.{product_at_least, lt_scaled}
use Rattle.cell_laws.proofs.Decision.{has_point-true}
use Rattle.cell_laws.proofs.GridLines.{x_under_holds, x_is_holds}
use Rattle.cell_laws.proofs.Lists.{all_append}
use Rattle.cell_laws.proofs.Meets.{kept_points}
use Rattle.column_laws.specs.Rising.{IsRising}
use Rattle.column_laws.proofs.Exact.{abscissas-rising}
use Rattle.rule_loops.specs.Rightward.{moved, LastsRight, IsStrict, is_line, is_wall, IsOff, AreOffWalls}

-- ---- a half-plane
value_moved : (h : HalfPlane) (m : ℕ) (o : 0 < m) (p : Point) → value_at h (moved m o p) ≡ pos m *ℤ value_at h p +ℤ h.a *ℤ pos p.w
value_moved h m o p =
    same_by (num h.a ⊗ (num p.x ⊗ num (pos m) ⊕ num (pos p.w)) ⊕ num h.b ⊗ (num p.y ⊗ num (pos m)) ⊕ num h.c ⊗ num (pos (p.w * m)))
    (num (pos m) ⊗ (num h.a ⊗ num p.x ⊕ num h.b ⊗ num p.y ⊕ num h.c ⊗ num (pos p.w)) ⊕ num h.a ⊗ num (pos p.w)) (omega arith)

-- m v + a w is above 0 where v is at least 1 and m is above |a| w
stays_over : (a v : ℤ) (m w : ℕ) → pos 0 <ℤ v → unsigned_abs a * w + 1 ≤ m → pos 0 <ℤ (pos m *ℤ v +ℤ a *ℤ pos w)
stays_over a v m w h k =
    let f = product_at_least (pos m) (v -ℤ pos 1) (omega (arith, ints)) (omega (arith, ints)) in
    let g = product_at_least (a +ℤ pos (unsigned_abs a)) (pos w) (omega (arith, ints)) (omega (arith, ints)) in
    let e : pos m *ℤ v +ℤ a *ℤ pos w
    ≡ pos m *ℤ (v -ℤ pos 1) +ℤ (a +ℤ pos (unsigned_abs a)) *ℤ pos w +ℤ (pos m -ℤ pos (unsigned_abs a * w)) =
    same_by (num (pos m) ⊗ num v ⊕ num a ⊗ num (pos w))
    (num (pos m) ⊗ (num v ⊖ num (pos 1)) ⊕ (num a ⊕ num (pos (unsigned_abs a))) ⊗ num (pos w) ⊕
    (num (pos m) ⊖ num (pos (unsigned_abs a * w))))
    (omega arith) in
    sum _ _ _ _ m (unsigned_abs a * w) e f g k refl
  where
    sum : (s x y z : ℤ) (m n : ℕ) → s ≡ x +ℤ y +ℤ z → pos 0 ≤ℤ x → pos 0 ≤ℤ y → n + 1 ≤ m → z ≡ pos m -ℤ pos n → pos 0 <ℤ s
    sum s x y z m n e f g k h = omega (arith, ints)

abbrev far_half : HalfPlane → Point → ℕ
far_half h p = unsigned_abs h.a * p.w + 1

half_lasts : (h : HalfPlane) (p : Point) → h.op ≡ Over → Holds h p → (m : ℕ) (o : 0 < m) → far_half h p ≤ m → Holds h (moved m o p)
half_lasts h p e i m o k =
    let v : pos 0 <ℤ value_at h p = subst (λ (op : Op). Says op (value_at h p)) e i in
    let w : pos 0 <ℤ value_at h (moved m o p) =
    subst (λ z. pos 0 <ℤ z) (sym (value_moved h m o p)) (stays_over h.a (value_at h p) m p.w v k) in
    subst (λ (op : Op). Says op (value_at h (moved m o p))) (sym e) w

-- ---- sets
pub both_last : (P Q : Point → Type 0) → LastsRight P → LastsRight Q → LastsRight (λ p. P p × Q p)
both_last P Q f g p h =
    let a = f p h.0 in
    let b = g p h.1 in
    (a.0 + b.0, λ m o k. (a.1 m o (omega arith), b.1 m o (omega arith)))

pub same_lasts : (P Q : Point → Type 0) → ((p : Point) → Q p ↔ P p) → LastsRight P → LastsRight Q
same_lasts P Q e f p h = let a = f p ((e p).0 h) in (a.0, λ m o k. (e (moved m o p)).1 (a.1 m o k))

pub strict_lasts : (c : Cell) → IsStrict c → LastsRight (InCell c)
strict_lasts [] s p h = (0, λ m o k. tt)
strict_lasts (h ∷ hs) s p i =
    let a = strict_lasts hs s.1 p i.1 in
    (far_half h p + a.0, λ m o k. (half_lasts h p s.0 i.0 m o (omega arith), a.1 m o (omega arith)))

-- ---- off the walls
strict_off : (c : Cell) → IsStrict c → is_wall c ≡ false
strict_off [] s = refl
strict_off (h ∷ hs) s = ap is_line s.0

abbrev GoesOff : Point → List Cell → Type 0
GoesOff p ds = (k : ℕ) × ((m : ℕ) (o : 0 < m) → k ≤ m → SomeOf (IsOff (moved m o p)) ds)

off_left : (p : Point) (cs ds : List Cell) → GoesOff p cs → GoesOff p (cs ++ ds)
off_left p cs ds h = (h.0, λ m o k. SomeOf-append_left (IsOff (moved m o p)) cs ds (h.1 m o k))

off_right : (p : Point) (cs ds : List Cell) → GoesOff p ds → GoesOff p (cs ++ ds)
off_right p cs ds h = (h.0, λ m o k. SomeOf-append_right (IsOff (moved m o p)) cs ds (h.1 m o k))

strict_go_off : (p : Point) (cs : List Cell) → Every IsStrict cs → InCells cs p → GoesOff p cs
strict_go_off p [] s h = absurd h
strict_go_off p (c ∷ cs) s (inl h) = let a = strict_lasts c s.0 p h in (a.0, λ m o k. inl (strict_off c s.0, a.1 m o k))
strict_go_off p (c ∷ cs) s (inr h) = off_right p (c ∷ []) cs (strict_go_off p cs s.1 h)

-- ---- slots and columns
over_strict : (b : Option Segment) → IsStrict (over b)
over_strict None = tt
over_strict (Some s) = (refl, tt)

slots_strict : (even : Bool) (b : Option Segment) (ss : List Segment) → Every IsStrict (slots even b ss)
slots_strict true b [] = (over_strict b, tt)
slots_strict false b [] = tt
slots_strict true b (s ∷ ss) = (
  every_append (λ (h : HalfPlane). h.op ≡ Over) (over b) (right_of s ∷ []) (over_strict b) (refl, tt),
  slots_strict false (Some s) ss,
)
slots_strict false b (s ∷ ss) = slots_strict true (Some s) ss

column_strict : (x y : ℤ) (cs : List Cell) → Every IsStrict cs → Every IsStrict (in_column x y cs)
column_strict x y [] s = tt
column_strict x y (c ∷ cs) s = ((refl, (refl, s.0)), column_strict x y cs s.1)

-- ---- walls
at_out : (x : ℤ) (c : Cell) (gs : List Cell) (p : Point) → InCells (at_wall x c gs) p → Holds (x_is x) p × InCell c p
at_out x c [] p h = absurd h
at_out x c (g ∷ gs) p (inl h) = (h.0, ((all_append (λ (k : HalfPlane). Holds k p) c g).0 h.1).0)
at_out x c (g ∷ gs) p (inr h) = at_out x c gs p h

on_out : (x : ℤ) (cs gs : List Cell) (p : Point) → InCells (on_wall x cs gs) p → Holds (x_is x) p × InCells cs p
on_out x [] gs p h = absurd h
on_out x (c ∷ cs) gs p h = elim (SomeOf-either (λ d. InCell d p) (at_wall x c gs) (on_wall x cs gs) h) [
  | inl k ↦ let r = at_out x c gs p k in (r.0, inl r.1)
  | inr k ↦ let r = on_out x cs gs p k in (r.0, inr r.1)
]

-- right of a point on the line x
over_moved : (x : ℤ) (p : Point) → Holds (x_is x) p → (m : ℕ) (o : 0 < m) → Holds (x_over x) (moved m o p)
over_moved x p h m o =
    subst (λ z. pos 0 <ℤ z) (sym (value_moved (x_over x) m o p))
    (by_zero (value_at (x_over x) p) (pos m) p.w h p.positive)
  where
    by_zero : (v n : ℤ) (w : ℕ) → v ≡ pos 0 → 0 < w → pos 0 <ℤ (n *ℤ v +ℤ pos 1 *ℤ pos w)
    by_zero v n w e k = rw e (omega (arith, ints))

slot_goes_off : (x y : ℤ) (p : Point) (cs : List Cell) → x <ℤ y → Holds (x_is x) p → Every IsStrict cs → InCells cs p
    → GoesOff p (in_column x y cs)
slot_goes_off x y p [] l e s h = absurd h
slot_goes_off x y p (c ∷ cs) l e s (inl h) =
    let before : p.x <ℤ (y *ℤ pos p.w) = rw ((x_is_holds x p).0 e) (lt_scaled x y p.w p.positive l) in
    let under : Holds (x_under y) p = (x_under_holds y p).1 before in
    let a = strict_lasts (x_under y ∷ c) (refl, s.0) p (under, h) in
    (a.0, λ m o k. inl (refl, (over_moved x p e m o, a.1 m o k)))
slot_goes_off x y p (c ∷ cs) l e s (inr h) =
    off_right p ((x_over x ∷ x_under y ∷ c) ∷ []) (in_column x y cs) (slot_goes_off x y p cs l e s.1 h)

-- ---- from the first abscissa on, and what lies right of the last
abbrev rest_from : List Segment → ℤ → List ℤ → List Cell
rest_from ss x xs = cells_from true ss x xs ++ ((x_over (last x xs) ∷ []) ∷ [])

rest_goes_off : (ss : List Segment) (p : Point) (x : ℤ) (xs : List ℤ) → IsRising (x ∷ xs) → InCells (rest_from ss x xs) p
    → GoesOff p (rest_from ss x xs)
rest_goes_off ss p x [] r h =
    let own = wall true x ss [] in
    let end = (x_over x ∷ []) ∷ [] in
    off_right p own end (elim (SomeOf-either (λ d. InCell d p) own end h) [
      | inl k ↦
          let at = on_out x (slots true None []) (intervals (is_covered x ss) None (ordinates x ss)) p k in
          (0, λ m o l. inl (refl, (over_moved x p at.0 m o, tt)))
      | inr k ↦ strict_go_off p end ((refl, tt), tt) k
    ])
rest_goes_off ss p x (y ∷ ys) r h =
    let col = column x y ss in
    let own = wall true x ss col in
    let strip = in_column x y (slots true None col) in
    let more = rest_from ss y ys in
    let strict = slots_strict true None col in
    let same : rest_from ss x (y ∷ ys) ≡ own ++ (strip ++ more) =
    append_assoc own (strip ++ cells_from true ss y ys) ((x_over (last y ys) ∷ []) ∷ [])
    ∙ ap (λ cs. own ++ cs) (append_assoc strip (cells_from true ss y ys) ((x_over (last y ys) ∷ []) ∷ [])) in
    let either = SomeOf-either (λ d. InCell d p) own (strip ++ more) (subst (λ (cs : List Cell). InCells cs p) same h) in
    subst (GoesOff p) (sym same) (off_right p own (strip ++ more) (elim either [
      | inl k ↦
          let at = on_out x (slots true None col) (intervals (is_covered x ss) None (ordinates x ss)) p k in
          off_left p strip more (slot_goes_off x y p (slots true None col) r.0.0 at.0 strict at.1)
      | inr k ↦ elim (SomeOf-either (λ d. InCell d p) strip more k) [
        | inl l ↦ off_left p strip more (strict_go_off p strip (column_strict x y (slots true None col) strict) l)
        | inr l ↦ off_right p strip more (rest_goes_off ss p y ys r.1 l)
      ]
    ]))

outside_goes_off : (ss : List Segment) (p : Point) (xs : List ℤ) → IsRising xs → InCells (outside_by ss xs) p → GoesOff p (outside_by ss xs)
outside_goes_off ss p [] r h = (0, λ m o k. inl (refl, tt))
outside_goes_off ss p (x ∷ xs) r (inl h) =
    off_left p ((x_under x ∷ []) ∷ []) (rest_from ss x xs) (strict_go_off p ((x_under x ∷ []) ∷ []) ((refl, tt), tt) (inl h))
outside_goes_off ss p (x ∷ xs) r (inr h) = off_right p ((x_under x ∷ []) ∷ []) (rest_from ss x xs) (rest_goes_off ss p x xs r h)

-- ---- which cells are walls
abbrev pub OrWall : Cell → Type 0
OrWall d = is_wall d ≡ false → IsStrict d

at_wall_each : (x : ℤ) (c : Cell) (gs : List Cell) → Every OrWall (at_wall x c gs)
at_wall_each x c [] = tt
at_wall_each x c (g ∷ gs) = ((λ e. absurd (false≢true (sym e))), at_wall_each x c gs)

on_wall_each : (x : ℤ) (cs gs : List Cell) → Every OrWall (on_wall x cs gs)
on_wall_each x [] gs = tt
on_wall_each x (c ∷ cs) gs = every_append OrWall (at_wall x c gs) (on_wall x cs gs) (at_wall_each x c gs) (on_wall_each x cs gs)

strip_each : (x y : ℤ) (ss : List Segment) → Every OrWall (in_column x y (slots true None (column x y ss)))
strip_each x y ss =
    let cs = slots true None (column x y ss) in
    every_map IsStrict OrWall (λ d s e. s) (in_column x y cs) (column_strict x y cs (slots_strict true None (column x y ss)))

from_each : (ss : List Segment) (x : ℤ) (xs : List ℤ) → Every OrWall (cells_from true ss x xs)
from_each ss x [] = on_wall_each x (slots true None []) (intervals (is_covered x ss) None (ordinates x ss))
from_each ss x (y ∷ ys) =
    let col = column x y ss in
    let strip = in_column x y (slots true None col) in
    every_append OrWall (wall true x ss col) (strip ++ cells_from true ss y ys)
    (on_wall_each x (slots true None col) (intervals (is_covered x ss) None (ordinates x ss)))
    (every_append OrWall strip (cells_from true ss y ys) (strip_each x y ss) (from_each ss y ys))

outside_each : (ss : List Segment) (xs : List ℤ) → Every OrWall (outside_by ss xs)
outside_each ss [] = ((λ e. tt), tt)
outside_each ss (x ∷ xs) = (
  (λ e. (refl, tt)),
  every_append OrWall (cells_from true ss x xs) ((x_over (last x xs) ∷ []) ∷ []) (from_each ss x xs) ((λ e. (refl, tt)), tt),
)

-- ---- the outside
kept_off : (q : Point) (ds : List Cell) → SomeOf (IsOff q) ds → SomeOf (IsOff q) (kept ds)
kept_off q [] h = h
kept_off q (d ∷ ds) h = by_test (has_point d) refl h (kept_off q ds)
  where
    by_test : (b : Bool) → has_point d ≡ b → IsOff q d ⊎ SomeOf (IsOff q) ds → (SomeOf (IsOff q) ds → SomeOf (IsOff q) (kept ds))
        → SomeOf (IsOff q) (cond b (d ∷ kept ds) (kept ds))
    by_test true e (inl k) f = inl k
    by_test true e (inr k) f = inr (f k)
    by_test false e (inl k) f = absurd (false≢true (sym e ∙ (has_point-true d).1 (q, k.1)))
    by_test false e (inr k) f = f k

pub outside_off_walls : (ss : List Segment) → AreOffWalls (outside_cells ss)
outside_off_walls ss =
    let all = outside_by ss (abscissas ss) in
    record {
      strict = every_filter OrWall has_point all (outside_each ss (abscissas ss));
      beside = λ p h.
          let g = outside_goes_off ss p (abscissas ss) (abscissas-rising ss) ((kept_points all p).0 h) in
          (g.0, λ m o k. kept_off (moved m o p) all (g.1 m o k));
    }

-- Which squares come near to a window.
use Rattle.std.proofs.Common.{◌≡◌, inl, inr, sym, ap, ◌∙◌, subst, ℕ, ◌+◌, ◌-◌, ◌*◌, ◌/◌, ◌^◌, ◌≤◌, true, false, ◌&&◌, List, Contains, arith}
use Rattle.std.specs.Prelude.{ℤ, negsuc, ◌-ℤ◌, ◌≤ℤ◌, unsigned_abs, nat_le}
use Rattle.std.specs.List.{list_any}
use Rattle.std.proofs.lemmas.Bool.{and_from, or_left, or_right, or_parts, le-leb, ltb-false, cases_Bool, false≢true, false_from_ne_true}
use Rattle.std.proofs.lemmas.Int.{ints}
use Rattle.std.proofs.lemmas.Nat.{pow_pos, le-div}
use Rattle.std.proofs.Math.Nat.{div-mul-le_self}
use Rattle.plane_terms.specs.Rectangle.{Rectangle, IsRectangle, rects_meet}
use Rattle.plane_terms.proofs.ListLemmas.{IsAmong}
use Rattle.grid_index.specs.declared.placed.Placed.{Placed}
use Rattle.grid_index.specs.declared.middle.Middle.{Middle}
use Rattle.grid_index.specs.Middles.{middle_of}
use Rattle.grid_index.specs.Nodes.{IsSnug}
use Rattle.grid_index.specs.Squares.{same_square, AreInSquare}
use Rattle.grid_index.specs.Steps.{from_edge, is_long, comes_near, in_range, is_reached}
use Rattle.grid_index.proofs.Counted.{any_among, any_found}
use Rattle.grid_index.proofs.Members.{among}
use Rattle.grid_index.proofs.Squares.{one_square}

-- ---- along one axis
part_le : (k a b : ℕ) → a ≤ b → a / 2 ^ k ≤ b / 2 ^ k
part_le k a b h = le-div (a / 2 ^ k) b (2 ^ k) (pow_pos k) (omega (arith, h, div-mul-le_self a (2 ^ k)))

low_end : (s : ℕ) (a l v : ℤ) → negsuc 4194303 ≤ℤ a → a ≤ℤ v → unsigned_abs (v -ℤ l) ≤ s → 2 * from_edge a - s ≤ from_edge l + from_edge v
low_end s a l v e h w = omega (arith, ints)

high_end : (s : ℕ) (b u h : ℤ) → negsuc 4194303 ≤ℤ u → u ≤ℤ b → unsigned_abs (h -ℤ u) ≤ s → from_edge u + from_edge h ≤ 2 * from_edge b + s
high_end s b u h e l w = omega (arith, ints)

-- the window goes from a to b, the reach from u to v; one that is not long begins at u and ends at h, another begins at l and ends at v
near_part : (k s n : ℕ) (a b u v h l : ℤ) → negsuc 4194303 ≤ℤ a → negsuc 4194303 ≤ℤ u → a ≤ℤ v → u ≤ℤ b → unsigned_abs (h -ℤ u) ≤ s → unsigned_abs (v -ℤ l) ≤ s
    → (from_edge u + from_edge h) / 2 ^ k ≡ n / 2 ^ k → (from_edge l + from_edge v) / 2 ^ k ≡ n / 2 ^ k → comes_near k s a b n ≡ true
near_part k s n a b u v h l ra ru av ub w z e f = and_from _ _
    (le-leb ((2 * from_edge a - s) / 2 ^ k) (n / 2 ^ k)
    (subst (λ m. (2 * from_edge a - s) / 2 ^ k ≤ m) f (part_le k _ _ (low_end s a l v ra av z))))
    (le-leb (n / 2 ^ k) ((2 * from_edge b + s) / 2 ^ k)
    (subst (λ m. m ≤ (2 * from_edge b + s) / 2 ^ k) e (part_le k _ _ (high_end s b u h ru ub w))))

-- ---- what meets the reach of a node
west_of : (w r : Rectangle) → rects_meet w r ≡ true → w.x0 ≤ℤ r.x1
west_of w r t = grind (arith, ints)

east_of : (w r : Rectangle) → rects_meet w r ≡ true → r.x0 ≤ℤ w.x1
east_of w r t = grind (arith, ints)

south_of : (w r : Rectangle) → rects_meet w r ≡ true → w.y0 ≤ℤ r.y1
south_of w r t = grind (arith, ints)

north_of : (w r : Rectangle) → rects_meet w r ≡ true → r.y0 ≤ℤ w.y1
north_of w r t = grind (arith, ints)

short : (s : ℕ) (p : Placed) → is_long s p ≡ false → (unsigned_abs (p.rect.x1 -ℤ p.rect.x0) ≤ s) × (unsigned_abs (p.rect.y1 -ℤ p.rect.y0) ≤ s)
short s p f = let o = or_parts _ _ f in (ltb-false s _ o.0, ltb-false s _ o.1)

-- the middle of each of ps lies in the square of m, and none is long
all_near : (k s : ℕ) (w r : Rectangle) (m : Middle) (ps : List Placed) → IsRectangle w → IsRectangle r → rects_meet w r ≡ true → IsSnug r ps
    → AreInSquare k m ps → ((p : Placed) → Contains ps p → is_long s p ≡ false) → in_range k s w m ≡ true
all_near k s w r m ps ow or t snug inside none =
    let a = snug.west in
    let b = snug.east in
    let c = snug.south in
    let d = snug.north in
    let sa = (short s a.0 (none a.0 a.1)).0 in
    let sb = (short s b.0 (none b.0 b.1)).0 in
    let sc = (short s c.0 (none c.0 c.1)).1 in
    let sd = (short s d.0 (none d.0 d.1)).1 in
    let na = ((one_square k m (middle_of a.0.rect)).0 (inside a.0 a.1)).0 in
    let nb = ((one_square k m (middle_of b.0.rect)).0 (inside b.0 b.1)).0 in
    let nc = ((one_square k m (middle_of c.0.rect)).0 (inside c.0 c.1)).1 in
    let nd = ((one_square k m (middle_of d.0.rect)).0 (inside d.0 d.1)).1 in
    and_from _ _
    (near_part k s m.x w.x0 w.x1 r.x0 r.x1 a.0.rect.x1 b.0.rect.x0 ow.on_grid.left or.on_grid.left (west_of w r t) (east_of w r t)
    (subst (λ u. unsigned_abs (a.0.rect.x1 -ℤ u) ≤ s) a.2 sa) (subst (λ v. unsigned_abs (v -ℤ b.0.rect.x0) ≤ s) b.2 sb)
    (subst (λ u. (from_edge u + from_edge a.0.rect.x1) / 2 ^ k ≡ m.x / 2 ^ k) a.2 (sym na))
    (subst (λ v. (from_edge b.0.rect.x0 + from_edge v) / 2 ^ k ≡ m.x / 2 ^ k) b.2 (sym nb)))
    (near_part k s m.y w.y0 w.y1 r.y0 r.y1 c.0.rect.y1 d.0.rect.y0 ow.on_grid.below or.on_grid.below (south_of w r t) (north_of w r t)
    (subst (λ u. unsigned_abs (c.0.rect.y1 -ℤ u) ≤ s) c.2 sc) (subst (λ v. unsigned_abs (v -ℤ d.0.rect.y0) ≤ s) d.2 sd)
    (subst (λ u. (from_edge u + from_edge c.0.rect.y1) / 2 ^ k ≡ m.y / 2 ^ k) c.2 (sym nc))
    (subst (λ v. (from_edge d.0.rect.y0 + from_edge v) / 2 ^ k ≡ m.y / 2 ^ k) d.2 (sym nd)))

-- middles of one square are near together
range_same : (k s : ℕ) (w : Rectangle) (a b : Middle) → same_square k a b ≡ true → in_range k s w a ≡ in_range k s w b
range_same k s w a b t =
    let e = (one_square k a b).0 t in
    ap (λ n. (nat_le ((2 * from_edge w.x0 - s) / 2 ^ k) n && nat_le n ((2 * from_edge w.x1 + s) / 2 ^ k)) && comes_near k s w.y0 w.y1 a.y) e.0
    ∙ ap (λ n. comes_near k s w.x0 w.x1 b.x && (nat_le ((2 * from_edge w.y0 - s) / 2 ^ k) n && nat_le n ((2 * from_edge w.y1 + s) / 2 ^ k))) e.1

-- a window that meets the reach of a node reaches one of its rectangles
pub some_reached : (k s : ℕ) (w r : Rectangle) (m : Middle) (ps : List Placed) → IsRectangle w → IsRectangle r → rects_meet w r ≡ true → IsSnug r ps
    → AreInSquare k m ps → (p : Placed) × IsAmong p ps × (is_reached k s w p ≡ true)
some_reached k s w r m ps ow or t snug inside = elim (cases_Bool (list_any (is_long s) ps)) [
  | inl long ↦
      let f = any_found (is_long s) ps long in
      (f.0, f.1, or_right (in_range k s w (middle_of f.0.rect)) (is_long s f.0) f.2)
  | inr none ↦
      let p = snug.west.0 in
      let h = snug.west.1 in
      let near = all_near k s w r m ps ow or t snug inside
      (λ q i. false_from_ne_true (is_long s q) (λ l. false≢true (sym none ∙ any_among (is_long s) ps q (among ps q i) l))) in
      (p, among ps p h, or_left (in_range k s w (middle_of p.rect)) (is_long s p) (sym (range_same k s w m (middle_of p.rect) (inside p h)) ∙ near))
]

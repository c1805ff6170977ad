-- The search for what polygons leave of an open piece: cells that are no walls are enough.
use Rattle.std.proofs.Common.{◌≡◌, ◌↔◌, inl, inr, ℕ, ◌+◌, ◌<◌, ◌≤◌, Bool, true, false, List, [], ◌∷◌, ◌++◌, zero, suc, pos, ◌+ℤ◌, ◌-ℤ◌, arith, refl, sym, ◌∙◌, subst, Option, Some, drop, map}
use Rattle.std.specs.Bool.{OnTrue}
use Rattle.std.specs.List.{filter}
use Rattle.std.specs.Prelude.{slice_get, ◌&&◌, not}
use Rattle.std.proofs.lemmas.Int.{ints}
use Rattle.std.proofs.lemmas.Bool.{false≢true, cases_lt}
use Rattle.plane_terms.specs.Lists.{Every, SomeOf}
use Rattle.plane_terms.specs.Point.{Point, point_at}
use Rattle.plane_terms.specs.Cell.{Cell, InCell, InCells, HasPoint, box_round}
use Rattle.plane_terms.specs.Rectangle.{Rectangle, IsProper}
use Rattle.topology_terms.specs.Feature.{Feature, Side, sides}
use Rattle.topology_terms.specs.Cells.{outside}
use Rattle.plane_terms.proofs.ListLemmas.{every_append, every_left, every_got}
use Rattle.cell_laws.proofs.GridLines.{x_over_holds, y_over_holds, y_under_holds, x_under_holds}
use Rattle.rule_loops.specs.Open.{IsInEach, chosen, outsides}
use Rattle.rule_loops.specs.Rightward.{moved, LastsRight, IsStrict, is_wall, IsOff, AreOffWalls}
use Rattle.rule_loops.proofs.Shut.{IsShutIn, all_shut}
use Rattle.rule_loops.proofs.Rightwards.{OrWall, strict_lasts, both_last, same_lasts, outside_off_walls}

-- ---- lists of cells
off_in : (q : Point) (ds : List Cell) → SomeOf (IsOff q) ds → InCells ds q
off_in q [] h = h
off_in q (d ∷ ds) (inl h) = inl h.1
off_in q (d ∷ ds) (inr h) = inr (off_in q ds h)

cells_last : (ds : List Cell) → AreOffWalls ds → LastsRight (InCells ds)
cells_last ds a p h = let g = a.beside p h in (g.0, λ m o k. off_in (moved m o p) ds (g.1 m o k))

each_lasts : (near : List (List Cell)) → Every AreOffWalls near → LastsRight (IsInEach near)
each_lasts [] a p h = (0, λ m o k. tt)
each_lasts (ds ∷ near) a p h =
    let g = cells_last ds a.0 p h.0 in
    let r = each_lasts near a.1 p h.1 in
    (g.0 + r.0, λ m o k. (g.1 m o (omega arith), r.1 m o (omega arith)))

-- ---- the search: where the piece lasts to the right, cells that are no walls are enough
-- whether the search passes over the cell
abbrev pub is_passed : Bool → Cell → Bool
is_passed is_open d = is_open && is_wall d

-- those before n that are not passed over are shut
abbrev pub AreShutBut : Bool → List (List Cell) → Cell → List Cell → ℕ → Type 0
AreShutBut is_open near c ds n = (j : ℕ) → (d : Cell) → j < n → slice_get ds j ≡ Some d → is_passed is_open d ≡ false → IsShutIn near c d

some_off : (q : Point) (ds : List Cell) → SomeOf (IsOff q) ds → (j : ℕ) × (d : Cell) × (slice_get ds j ≡ Some d) × IsOff q d
some_off q [] h = absurd h
some_off q (d ∷ ds) (inl h) = (0, d, refl, h)
some_off q (d ∷ ds) (inr h) = let k = some_off q ds h in (suc k.0, k.1, k.2, k.3)

module _ (near : List (List Cell)) (c : Cell) (ds : List Cell) (n : ℕ) (later : (p : Point) → IsInEach near p → InCells ds p)
    (clear : (j : ℕ) → (d : Cell) → slice_get ds j ≡ Some d → n ≤ j → (p : Point) → InCell c p → ¬ (InCell d p)) where
  shut_off : AreOffWalls ds → LastsRight (InCell c) → LastsRight (IsInEach near) → AreShutBut true near c ds n → (p : Point) → InCell c p
      → ¬ (IsInEach near p)
  shut_off a lc le h p i e =
      let own = lc p i in
      let each = le p e in
      let off = a.beside p (later p e) in
      let m = own.0 + each.0 + off.0 + 1 in
      let o : 0 < m = omega arith in
      let q = moved m o p in
      let s = some_off q ds (off.1 m o (omega arith)) in
      let here = own.1 m o (omega arith) in
      elim (cases_lt s.0 n) [
        | inl b ↦ h s.0 s.1 b s.2 (s.3).0 q here (s.3).1 (each.1 m o (omega arith))
        | inr l ↦ clear s.0 s.1 s.2 l q here (s.3).1
      ]

  pub shut_by : (is_open : Bool) → AreOffWalls ds → OnTrue is_open (LastsRight (InCell c)) → Every AreOffWalls near
      → AreShutBut is_open near c ds n → (p : Point) → InCell c p → ¬ (IsInEach near p)
  shut_by true a l e h = shut_off a l (each_lasts near e) h
  shut_by false a l e h = all_shut near c ds n later (λ j d b g. h j d b g refl) clear

pub shut_one : (is_open : Bool) (near : List (List Cell)) (c : Cell) (ds : List Cell) (i : ℕ) → AreShutBut is_open near c ds i
    → ((d : Cell) → slice_get ds i ≡ Some d → is_passed is_open d ≡ false → IsShutIn near c d) → AreShutBut is_open near c ds (i + 1)
shut_one is_open near c ds i h f j d l e = elim (cases_lt j i) [
  | inl b ↦ h j d b e
  | inr a ↦ let s : j ≡ i = omega arith in f d (subst (λ k. slice_get ds k ≡ Some d) s e)
]

pub shut_more : (is_open : Bool) (near : List (List Cell)) (c o : Cell) (ds : List Cell) (m n : ℕ) → o ≡ c → AreShutBut is_open near c ds m
    → ((k : ℕ) → (d : Cell) → slice_get ds k ≡ Some d → m ≤ k → k < n → (p : Point) → InCell o p → ¬ (InCell d p)) → AreShutBut is_open near c ds n
shut_more is_open near c o ds m n s h clear j d l e = elim (cases_lt j m) [
  | inl b ↦ h j d b e
  | inr a ↦ λ w p k i _. clear j d e a l p (subst (λ (hs : Cell). InCell hs p) (sym s) k) i
]

-- an open piece that is narrowed by a cell; w says whether that is a wall
narrowed_lasts : (is_open : Bool) (w : Bool) (c d e : Cell) → OnTrue is_open (LastsRight (InCell c)) → (w ≡ false → IsStrict d)
    → ((p : Point) → InCell e p ↔ (InCell c p × InCell d p)) → OnTrue (is_open && not w) (LastsRight (InCell e))
narrowed_lasts false w c d e l s n = tt
narrowed_lasts true true c d e l s n = tt
narrowed_lasts true false c d e l s n =
    same_lasts (λ p. InCell c p × InCell d p) (InCell e) n (both_last (InCell c) (InCell d) l (strict_lasts d (s refl)))

-- a wall that was passed over
pub passed_wall : (is_open on : Bool) (ds : List Cell) (i : ℕ) (c d : Cell) → slice_get ds i ≡ Some c → slice_get ds i ≡ Some d
    → is_open ≡ true → on ≡ true → on ≡ is_wall c → is_passed is_open d ≡ false → ⊥
passed_wall is_open on ds i c d e f o t w n =
    let s : d ≡ c = cc in
    let k : is_passed is_open d ≡ true = rw (s, o, ← w, t) refl in
    false≢true (sym n ∙ k)

pub each_off_from : (near : List (List Cell)) (k : ℕ) → Every AreOffWalls near → Every AreOffWalls (drop k near)
each_off_from near zero h = h
each_off_from [] (suc k) h = tt
each_off_from (ds ∷ near) (suc k) h = each_off_from near k h.1

-- ---- the outsides of polygons
pub all_off : (G : List Feature) → Every AreOffWalls (map {A = Feature} outside G)
all_off [] = tt
all_off (g ∷ G) = (outside_off_walls (sides g), all_off G)

pub held_off : (S : Side) (o : Option ℕ) (F : List Feature) (held rest first : List (List Cell)) → held ++ rest ≡ first ++ outsides S o F
    → Every AreOffWalls first → Every AreOffWalls held
held_off S o F held rest first e h =
    every_left AreOffWalls held rest (subst (Every AreOffWalls) (sym e)
    (every_append AreOffWalls first (outsides S o F) h (all_off (filter (chosen S o) F))))

-- ---- the box round a rectangle
pub box_has_point : (r : Rectangle) → IsProper r → HasPoint (box_round r)
box_has_point r h =
    let p = point_at (record { x = r.x0; y = r.y0 }) in (
      p,
      (
        (x_over_holds (r.x0 -ℤ pos 1) p).1 (omega (arith, ints)),
        (
          (x_under_holds (r.x1 +ℤ pos 1) p).1 (omega (arith, ints, h.wide)),
          (
            (y_over_holds (r.y0 -ℤ pos 1) p).1 (omega (arith, ints)),
            ((y_under_holds (r.y1 +ℤ pos 1) p).1 (omega (arith, ints, h.high)), tt),
          ),
        ),
      ),
    )

-- ---- pieces
pub started_lasts : (strict : Bool) (c e : Cell) → OnTrue strict (IsStrict c) → ((p : Point) → InCell e p ↔ InCell c p)
    → OnTrue strict (LastsRight (InCell e))
started_lasts true c e s n = same_lasts (InCell c) (InCell e) n (strict_lasts c s)
started_lasts false c e s n = tt

-- c is narrowed by d, the cell i of the outside of the polygon k
pub part_lasts : (near : List (List Cell)) (k : ℕ) (ds : List Cell) (i : ℕ) (d c e : Cell) (is_open stays : Bool) → Every AreOffWalls near
    → slice_get near k ≡ Some ds → slice_get ds i ≡ Some d → stays ≡ (is_open && not (is_wall d)) → OnTrue is_open (LastsRight (InCell c))
    → ((p : Point) → InCell e p ↔ (InCell c p × InCell d p)) → OnTrue stays (LastsRight (InCell e))
part_lasts near k ds i d c e is_open stays a f g q l n =
    let off = every_got AreOffWalls near k ds a f in
    subst (λ (b : Bool). OnTrue b (LastsRight (InCell e))) (sym q)
    (narrowed_lasts is_open (is_wall d) c d e l (every_got OrWall ds i d off.strict g) n)

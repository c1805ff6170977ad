-- The column that a stable sort of ranks gives.
use Rattle.std.proofs.Common.{◌≡◌, ℤ, pos, neg_ℤ, ◌+ℤ◌, ◌-ℤ◌, ◌*ℤ◌, arith, Bool, true, false, not, cond, ap, refl, ◌∙◌, List, [], ◌∷◌, map}
use Rattle.std.proofs.lemmas.Int.{ints}
use Rattle.std.specs.List.{filter, AllZip}
use Rattle.std.specs.List.Sorted.{IsSortedBy, IsStableBy}
use Rattle.std.specs.Int.RustNames.{int_lt, int_le}
use Rattle.column_cut.specs.declared.ranked.Ranked.{Ranked}
use Rattle.plane_terms.specs.Segment.{Segment, left_of}
use Rattle.plane_terms.specs.Columns.{is_lower, place, column, gap_at}
use Rattle.column_cut.specs.Ranks.{is_under, IsRank, IsRankOf, segment_of, passes}
use Rattle.number_laws.proofs.Ring.{num, neg, ◌⊕◌, ◌⊖◌, ◌⊗◌, same_by}
use Rattle.plane_terms.specs.Lists.{Every}
use Rattle.column_cut.proofs.Stable.{put_in, put_all, sorted_is_put_all}
use Rattle.column_cut.proofs.Ranking.{is_under-ranks}

gap_by_levels : (sx sy tx ty ux uy vx vy m : ℤ)
    → (neg_ℤ (ty -ℤ sy) *ℤ (vx -ℤ ux) -ℤ neg_ℤ (vy -ℤ uy) *ℤ (tx -ℤ sx)) *ℤ m +ℤ (((ty -ℤ sy) *ℤ sx -ℤ (tx -ℤ sx) *ℤ sy) *ℤ (vx -ℤ ux) -ℤ
    ((vy -ℤ uy) *ℤ ux -ℤ (vx -ℤ ux) *ℤ uy) *ℤ (tx -ℤ sx)) *ℤ pos 2 ≡ ((pos 2 *ℤ sx -ℤ m) *ℤ (ty -ℤ sy) -ℤ pos 2 *ℤ sy *ℤ (tx -ℤ sx)) *ℤ
    (vx -ℤ ux) -ℤ ((pos 2 *ℤ ux -ℤ m) *ℤ (vy -ℤ uy) -ℤ pos 2 *ℤ uy *ℤ (vx -ℤ ux)) *ℤ (tx -ℤ sx)
gap_by_levels sx sy tx ty ux uy vx vy m =
    let dx = num tx ⊖ num sx in
    let dy = num ty ⊖ num sy in
    let ex = num vx ⊖ num ux in
    let ey = num vy ⊖ num uy in
    same_by ((neg dy ⊗ ex ⊖ neg ey ⊗ dx) ⊗ num m ⊕ ((dy ⊗ num sx ⊖ dx ⊗ num sy) ⊗ ex ⊖ (ey ⊗ num ux ⊖ ex ⊗ num uy) ⊗ dx) ⊗ num (pos 2))
    (((num (pos 2) ⊗ num sx ⊖ num m) ⊗ dy ⊖ num (pos 2) ⊗ num sy ⊗ dx) ⊗ ex ⊖
    ((num (pos 2) ⊗ num ux ⊖ num m) ⊗ ey ⊖ num (pos 2) ⊗ num uy ⊗ ex) ⊗ dx)
    (omega arith)

tests : (g u v : ℤ) → g ≡ u -ℤ v → int_le (pos 0) g ≡ not (int_lt u v)
tests g u v e = by_cases (int_lt u v) refl
  where
    by_cases : (b : Bool) → int_lt u v ≡ b → int_le (pos 0) g ≡ not b
    by_cases true h = grind (arith, ints)
    by_cases false h = grind (arith, ints)

-- the ranks say which is lower
lower_by_ranks : (x y : ℤ) (r t : Ranked) → IsRank x y r → IsRank x y t → is_lower x y r.segment t.segment ≡ not (is_under t r)
lower_by_ranks x y r t f g =
    let e = gap_by_levels r.segment.lo.x r.segment.lo.y r.segment.hi.x r.segment.hi.y t.segment.lo.x t.segment.lo.y t.segment.hi.x
    t.segment.hi.y (x +ℤ y) in
    tests (gap_at (left_of r.segment) (left_of t.segment) (x +ℤ y) (pos 2)) (r.level *ℤ t.width) (t.level *ℤ r.width)
    (rw (f.width, f.level, g.width, g.level) e)

map_place : (x y : ℤ) (r : Ranked) (ts : List Ranked) → IsRank x y r → Every (IsRank x y) ts
    → map segment_of (put_in is_under is_under-ranks r ts) ≡ place x y r.segment (map segment_of ts)
map_place x y r [] f g = refl
map_place x y r (t ∷ ts) f g = by_cases (is_under t r) (is_lower x y r.segment t.segment) (lower_by_ranks x y r t f g.0)
    (map_place x y r ts f g.1)
  where
    by_cases : (a b : Bool) → b ≡ not a → map segment_of (put_in is_under is_under-ranks r ts) ≡ place x y r.segment (map segment_of ts)
        → map segment_of (cond a (t ∷ put_in is_under is_under-ranks r ts) (r ∷ t ∷ ts))
        ≡ cond b (r.segment ∷ t.segment ∷ map segment_of ts) (t.segment ∷ place x y r.segment (map segment_of ts))
    by_cases true b e h = rw (e, h) refl
    by_cases false b e h = rw e refl

all-put_in : (P : Ranked → Type 0) (r : Ranked) (ts : List Ranked) → P r → Every P ts → Every P (put_in is_under is_under-ranks r ts)
all-put_in P r [] h k = (h, tt)
all-put_in P r (t ∷ ts) h k = by_cases (is_under t r) (all-put_in P r ts h k.1)
  where
    by_cases : (b : Bool) → Every P (put_in is_under is_under-ranks r ts)
        → Every P (cond b (t ∷ put_in is_under is_under-ranks r ts) (r ∷ t ∷ ts))
    by_cases true m = (k.0, m)
    by_cases false m = (h, k)

all_ranks : (x y : ℤ) (ss : List Segment) (rs : List Ranked) → AllZip (IsRankOf x y) (filter (passes x y) ss) rs
    → Every (IsRank x y) (put_all is_under is_under-ranks rs) × (map segment_of (put_all is_under is_under-ranks rs) ≡ column x y ss)
all_ranks x y [] [] z = (tt, refl)
all_ranks x y [] (r ∷ rs) z = absurd z
all_ranks x y (s ∷ ss) rs z = by_cases (passes x y s) rs (all_ranks x y ss) z
  where
    one : (r : Ranked) (us : List Ranked) → IsRankOf x y s r → Every (IsRank x y) us × (map segment_of us ≡ column x y ss)
        → map segment_of (put_in is_under is_under-ranks r us) ≡ place x y s (column x y ss)
    one r us f h = map_place x y r us f.rank h.0 ∙ rw (f.segment, h.1) refl

    by_cases : (b : Bool) (rs : List Ranked) → ((us : List Ranked) → AllZip (IsRankOf x y) (filter (passes x y) ss) us
        → Every (IsRank x y) (put_all is_under is_under-ranks us) × (map segment_of (put_all is_under is_under-ranks us) ≡ column x y ss))
        → AllZip (IsRankOf x y) (cond b (s ∷ filter (passes x y) ss) (filter (passes x y) ss)) rs
        → Every (IsRank x y) (put_all is_under is_under-ranks rs) × (map segment_of (put_all is_under is_under-ranks rs)
        ≡ cond b (place x y s (column x y ss)) (column x y ss))
    by_cases true [] f z = absurd z
    by_cases true (r ∷ us) f z = let k = f us z.1 in (
      all-put_in (IsRank x y) r (put_all is_under is_under-ranks us) z.0.rank k.0,
      one r
          (put_all is_under is_under-ranks us) z.0 k,
    )
    by_cases false rs f z = f rs z

-- what a stable sort of the ranks leaves is the column
pub column_by_sort : (x y : ℤ) (ss : List Segment) (rs us : List Ranked) → AllZip (IsRankOf x y) (filter (passes x y) ss) rs
    → IsSortedBy is_under us → IsStableBy is_under rs us → map segment_of us ≡ column x y ss
column_by_sort x y ss rs us z up st = ap (map segment_of) (sorted_is_put_all is_under is_under-ranks rs us up st)
    ∙ (all_ranks x y ss rs z).1

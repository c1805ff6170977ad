-- Rectangles that begin too far east, or so far west that not even the widest reaches another, do not meet it.
use Rattle.std.proofs.Common.{◌≡◌, ℕ, ◌≤◌, ◌<◌, ℤ, ◌≤ℤ◌, ◌+ℤ◌, ◌-ℤ◌, ◌+◌, ◌⊎◌, inl, inr, refl, pos, cond, Bool, true, false, List, length, take, drop, get_or, All, arith, ◌∙◌}
use Rattle.std.specs.Prelude.{int_lt, int_le}
use Rattle.std.specs.List.{filter, AllWithin}
use Rattle.std.specs.List.Sorted.{IsPartitionedBy, IsPartitionPoint}
use Rattle.std.specs.Ordering.{int_cmp, is_lt}
use Rattle.std.proofs.lemmas.Bool.{cases_lt}
use Rattle.std.proofs.lemmas.Int.{ints}
use Rattle.std.proofs.lemmas.Cmp.{int_cmp_total}
use Rattle.std.proofs.lemmas.List.{get_or_default}
use Rattle.std.proofs.lemmas.List.Sorted.{sorted_far, ranks_by}
use Rattle.plane_terms.specs.Rectangle.{Rectangle, rects_meet}
use Rattle.validation.specs.Sorted.{west, IsUpTo, RunsEast}
use Rattle.validation.proofs.Filters.{filter_front, filter_back, parted_rest}
use Rattle.number_laws.proofs.Order.{no_less}

-- it begins west of x
abbrev pub is_before : ℤ → Rectangle → Bool
is_before x s = int_lt s.x0 x

-- it begins no further east than x
abbrev pub is_upto : ℤ → Rectangle → Bool
is_upto x s = int_le s.x0 x

further : (ss : List Rectangle) (i j : ℕ) (d : Rectangle) → RunsEast ss → i ≤ j → j < length ss → west (get_or ss i d) ≤ℤ west (get_or ss j d)
further ss i j d s l h = no_less (west (get_or ss i d)) (west (get_or ss j d)) (sorted_far (λ x y. is_lt (int_cmp (west x) (west y)))
    (ranks_by int_cmp_total west) ss s i j d l h)

before_too : (a b x : ℤ) → a ≤ℤ b → int_lt b x ≡ true → int_lt a x ≡ true
before_too a b x l t = grind (arith, ints)

upto_too : (a b x : ℤ) → a ≤ℤ b → int_le b x ≡ true → int_le a x ≡ true
upto_too a b x l t = grind (arith, ints)

pub before_parted : (x : ℤ) (ss : List Rectangle) → RunsEast ss → IsPartitionedBy (is_before x) ss
before_parted x ss s i j d l h t = before_too (west (get_or ss i d)) (west (get_or ss j d)) x (further ss i j d s l h) t

pub upto_parted : (x : ℤ) (ss : List Rectangle) (k : ℕ) → RunsEast ss → IsPartitionedBy (is_upto x) (drop k ss)
upto_parted x ss k s = parted_rest (is_upto x) ss k (λ i j d l h t. upto_too (west (get_or ss i d)) (west (get_or ss j d)) x
    (further ss i j d s l h) t)

too_far_west : (r s : Rectangle) (w : ℤ) → s.x1 ≤ℤ (s.x0 +ℤ w) → int_lt s.x0 (r.x0 -ℤ w) ≡ true → rects_meet r s ≡ false
too_far_west r s w l t = grind (arith, ints)

too_far_east : (r s : Rectangle) → int_le s.x0 r.x1 ≡ false → rects_meet r s ≡ false
too_far_east r s t = grind (arith, ints)

-- those between the two places are enough
pub between : (r : Rectangle) (w least greatest : ℤ) (ss : List Rectangle) (i k : ℕ)
    → IsPartitionPoint (λ s. is_before least s ≡ true) (λ s. is_before least s ≡ false) ss i
    → IsPartitionPoint (λ s. is_upto greatest s ≡ true) (λ s. is_upto greatest s ≡ false) (drop i ss) k
    → least ≡ r.x0 -ℤ w → greatest ≡ r.x1 → All (IsUpTo w) ss → i ≤ length ss → filter (rects_meet r) (take k (drop i ss)) ≡ filter
    (rects_meet r) ss
between r w least greatest ss i k p q el eg n b =
    filter_front (rects_meet r) (drop i ss) k (λ j d l h. too_far_east r (get_or (drop i ss) j d) (rw eg at (q.1 j d l h)))
    ∙ filter_back (rects_meet r) ss i b (λ j d l h. too_far_west r (get_or ss j d) w (n j d (omega arith)) (rw el at (p.0 j d l h)))

-- ---- how wide the widest is, one rectangle more
no_narrower : (a b v w : ℤ) → a ≤ℤ (b +ℤ v) → v ≤ℤ w → a ≤ℤ (b +ℤ w)
no_narrower a b v w h l = omega (arith, ints)

wider : (ss : List Rectangle) (i : ℕ) (s : Rectangle) (v w : ℤ) → i < length ss → s ≡ get_or ss i s → AllWithin (IsUpTo v) ss 0 i → v ≤ℤ w
    → IsUpTo w s → AllWithin (IsUpTo w) ss 0 (i + 1)
wider ss i s v w l is h m u = λ k d low below. elim (cases_lt k i) [
  | inl q ↦ no_narrower (get_or ss k d).x1 (get_or ss k d).x0 v w (h k d low q) m
  | inr q ↦ let e : k ≡ i = omega arith in rw (e, get_or_default ss i d s l) (rw is at u)
]

less : (a b : ℤ) → is_lt (int_cmp a b) ≡ true → a ≤ℤ b
less a b e = grind (arith, ints)

larger : (v d w : ℤ) (b : Bool) → is_lt (int_cmp d v) ≡ b → w ≡ cond b v d → (v ≤ℤ w) × (d ≤ℤ w) × ((w ≡ v) ⊎ (w ≡ d))
larger v d w true t e = let l = less d v t in (omega (arith, ints), omega (arith, ints), inl e)
larger v d w false t e = let l = no_less v d t in (omega (arith, ints), omega (arith, ints), inr e)

-- a width is within the bounds of the widest
pub record IsWidest (w : ℤ) (ss : List Rectangle) (i : ℕ) : Type 0 where
  pub enough : AllWithin (IsUpTo w) ss 0 i
  pub least : pos 0 ≤ℤ w
  pub greatest : w ≤ℤ pos 8388608

pub widest_more : (ss : List Rectangle) (i : ℕ) (s : Rectangle) (v d w : ℤ) → w ≡ cond (is_lt (int_cmp d v)) v d → i < length ss → s ≡ get_or ss i s
    → IsWidest v ss i → d ≡ s.x1 -ℤ s.x0 → d ≤ℤ pos 8388608 → IsWidest w ss (i + 1)
widest_more ss i s v d w e l is h is_width short =
    let y = larger v d w (is_lt (int_cmp d v)) refl e in
    let up = y.1 in
    let u : IsUpTo w s = omega (arith, ints) in
    record {
      enough = wider ss i s v w l is h.enough y.0 u;
      least = (let m = h.least in let k = y.0 in omega (arith, ints));
      greatest = elim y.2 [ inl q ↦ (let m = h.greatest in omega (arith, ints)) | inr q ↦ omega (arith, ints) ];
    }

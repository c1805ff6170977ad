-- Tests at a place of the grid: on a segment, below it; and how many elements pass a test.
use Rattle.std.proofs.Common.{◌≡◌, ◌↔◌, ℕ, ◌+◌, ◌<◌, suc, Bool, true, false, List, [], ◌∷◌}
use Rattle.std.proofs.Common.{Some, IsTrue, refl, sym, ◌∙◌, ap, take, length, get_or, cond, arith}
use Rattle.std.specs.Prelude.{slice_get, not, ◌&&◌}
use Rattle.std.proofs.lemmas.List.{take_more}
use Rattle.std.proofs.lemmas.Option.{get_or_from_slice_get, slice_get_within}
use Rattle.plane_terms.specs.Lists.{how_many, is_odd}
use Rattle.plane_terms.proofs.ListLemmas.{how_many_joined}
use Rattle.plane_terms.proofs.Truths.{same_by_truth}
use Rattle.plane_terms.specs.Point.{Place, point_at}
use Rattle.plane_terms.specs.Rectangle.{rect_at, is_within}
use Rattle.plane_terms.specs.Segment.{Segment, IsSegment, OnSegment, is_in_line, box_of}
use Rattle.plane_terms.specs.Line.{holds_place, box_holds}
use Rattle.grid_plane.specs.Rectangles.{HoldsAt}
use Rattle.cell_laws.proofs.OnLine.{at_itself}
use Rattle.rule_laws.proofs.Tests.{place_from, place_test}

-- ---- on a segment
and_false : (a b : Bool) → b ≡ false → (a && b) ≡ false
and_false true b e = e
and_false false b e = refl

pub off_box : (s : Segment) (q : Place) → is_within (rect_at q) (box_of s) ≡ false → holds_place s q ≡ false
off_box s q n = and_false (is_in_line s q) (box_holds (box_of s) q) n

pub on_is : (s : Segment) (q : Place) (b : Bool) → IsSegment s → IsTrue b ↔ HoldsAt q (OnSegment s) → b ≡ holds_place s q
on_is s q b g h = same_by_truth b (holds_place s q)
    (λ t. place_test s q (point_at q) g (at_itself q) (h.0 t (point_at q) (at_itself q)))
    (λ t. h.1 (λ p a. place_from s q p a t))

-- ---- how many pass a test
pub many_more : {A : Type 0} (test : A → Bool) (xs : List A) (i : ℕ) (x : A) (b : Bool) → slice_get xs i ≡ Some x → test x ≡ b
    → how_many test (take (i + 1) xs) ≡ how_many test (take i xs) + cond b 1 0
many_more test xs i x b e t =
    let there : get_or xs i x ≡ x = get_or_from_slice_get xs i x x e in
    let one : how_many test (get_or xs i x ∷ []) ≡ cond b 1 0 = rw (there, t) refl in
    ap (how_many test) (take_more xs i x (slice_get_within xs i x e))
    ∙ (how_many_joined test (take i xs) (get_or xs i x ∷ []) ∙ ap (λ n. how_many test (take i xs) + n) one)

pub odd_more : {A : Type 0} (test : A → Bool) (xs : List A) (i : ℕ) (x : A) (b odd : Bool) → i < length xs → x ≡ get_or xs i x → test x ≡ b
    → odd ≡ is_odd (how_many test (take i xs)) → cond b (not odd) odd ≡ is_odd (how_many test (take (i + 1) xs))
odd_more test xs i x b odd l e t h =
    let n = how_many test (take i xs) in
    let one : how_many test (get_or xs i x ∷ []) ≡ cond b 1 0 = rw (← e, t) refl in
    sym (ap is_odd (ap (how_many test) (take_more xs i x l)
    ∙ (how_many_joined test (take i xs) (get_or xs i x ∷ []) ∙ ap (λ m. n + m) one)) ∙ turned b n h)
  where
    turned : (b : Bool) (n : ℕ) → odd ≡ is_odd n → is_odd (n + cond b 1 0) ≡ cond b (not odd) odd
    turned true n e = let s : n + 1 ≡ suc n = omega arith in ap is_odd s ∙ ap not (sym e)
    turned false n e = let s : n + 0 ≡ n = omega arith in ap is_odd s ∙ sym e

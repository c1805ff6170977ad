-- What is ahead of a segment: rectangles round it, and segments that it does not come near.
use Rattle.std.proofs.Common.{◌≡◌, inl, inr, ℕ, zero, suc, min, ◌+◌, ◌-◌, ◌≤◌, false, List, [], ◌∷◌, ◌++◌, refl, sym, ◌∙◌, ap, take, drop, length, subst, append-nil, arith}
use Rattle.std.specs.Prelude.{flat_map}
use Rattle.std.proofs.lemmas.Bool.{cases_lt}
use Rattle.std.proofs.lemmas.Option.{get_or_from_slice_get}
use Rattle.std.proofs.lemmas.Grind.{flat_map-append}
use Rattle.std.proofs.lemmas.List.{take-append-drop, drop-drop, drop_all}
use Rattle.plane_terms.specs.Rectangle.{Rectangle, IsWithin, rects_meet}
use Rattle.plane_terms.specs.Segment.{Segment, IsSegment, box_of}
use Rattle.plane_terms.specs.Cell.{Cell}
use Rattle.plane_terms.proofs.ListLemmas.{every_map}
use Rattle.grid_plane.specs.Rectangles.{IsJoin}
use Rattle.sound_laws.proofs.Planes.{within_trans}
use Rattle.topology_terms.specs.Cells.{box_meets}
use Rattle.shape.specs.Frames.{IsRound}
use Rattle.rule_loops.specs.Ahead.{AreAhead, IsOff}
use Rattle.rule_loops.proofs.Boxes.{off_box}

-- ---- a rectangle round one segment more
pub round_joined : (r j : Rectangle) (t : Segment) (ts : List Segment) → IsSegment t → IsJoin j r (box_of t) → IsRound r ts → IsRound j (t ∷ ts)
round_joined r j t ts g b h =
    let In : Rectangle → Segment → Type 0 = λ q u. IsSegment u × IsWithin (box_of u) q in
    ((g, b.second), every_map (In r) (In j) (λ u k. (k.0, within_trans (box_of u) r j k.1 b.first)) ts h)

pub ahead_more : (r : Rectangle) (rs : List Rectangle) (t : Segment) (ts : List Segment) → IsRound r (t ∷ ts) → AreAhead rs ts
    → AreAhead (r ∷ rs) (t ∷ ts)
ahead_more r rs t ts h before zero f e = subst (λ (q : Rectangle). IsRound q (t ∷ ts)) (get_or_from_slice_get (r ∷ rs) 0 f f e) h
ahead_more r rs t ts h before (suc k) f e = before k f e

-- ---- segments that do not come near
pub off_round : (s : Segment) (r : Rectangle) (ts : List Segment) → IsRound r ts → rects_meet (box_of s) r ≡ false → IsOff s ts
off_round s r ts h n =
    every_map (λ (t : Segment). IsSegment t × IsWithin (box_of t) r) (λ (t : Segment). IsSegment t × (box_meets s t ≡ false))
    (λ t k. (k.0, off_box s t r k.1 n)) ts h

pub off_later : (s : Segment) (n : ℕ) (ts : List Segment) → IsOff s ts → IsOff s (drop n ts)
off_later s zero ts h = h
off_later s (suc n) [] h = tt
off_later s (suc n) (t ∷ ts) h = off_later s n ts h.1

off_near : (s : Segment) (n : ℕ) (near later : List Segment) → IsOff s (drop n (near ++ later)) → IsOff s (drop n near)
off_near s zero [] later h = tt
off_near s zero (t ∷ near) later h = (h.0, off_near s zero near later h.1)
off_near s (suc n) [] later h = tt
off_near s (suc n) (t ∷ near) later h = off_near s n near later h

-- from a number on that is no less, or is past the last
pub off_from : (s : Segment) (end n : ℕ) (ts : List Segment) → min end (length ts) ≤ n → IsOff s (drop end ts) → IsOff s (drop n ts)
off_from s end n ts l h = elim (cases_lt n end) [
  | inl b ↦ subst (IsOff s) (sym (drop_all n ts (omega arith))) tt
  | inr b ↦ subst (IsOff s) (drop-drop (n - end) end ts ∙ ap (λ m. drop m ts) (there b)) (off_later s (n - end) (drop end ts) h)
]
  where
    there : end ≤ n → end + (n - end) ≡ n
    there b = omega arith

module _ (f : Segment → Segment → List Cell)
    (apart : (s t : Segment) → IsSegment s → IsSegment t → box_meets s t ≡ false → f s t ≡ []) where
  pub none_off : (s : Segment) (ts : List Segment) → IsSegment s → IsOff s ts → flat_map (f s) ts ≡ []
  none_off s [] g h = refl
  none_off s (t ∷ ts) g h = rw (apart s t g h.0.0 h.0.1) (none_off s ts g h.1)

  -- of a row the first ones, where those behind them do not come near
  pub near_row : (s : Segment) (n : ℕ) (near later all : List Segment) → IsSegment s → all ≡ near ++ later → IsOff s (drop n all)
      → flat_map (f s) (take n near) ≡ flat_map (f s) near
  near_row s n near later all g e h =
      let none = none_off s (drop n near) g (off_near s n near later (subst (λ us. IsOff s (drop n us)) e h)) in
      sym (append-nil (flat_map (f s) (take n near))) ∙ (ap (λ cs. flat_map (f s) (take n near) ++ cs) (sym none)
      ∙ (sym (flat_map-append (f s) (take n near) (drop n near)) ∙ ap (flat_map (f s)) (take-append-drop n near)))

-- Rectangles round blocks of segments: a rectangle round one segment more, and one block more.
use Rattle.std.proofs.Common.{◌≡◌, inl, inr, length-append, length-drop, ℕ, ◌+◌, ◌*◌, ◌/◌, ◌<◌, ◌≤◌, Bool, true, List, [], ◌∷◌, ◌++◌, Some, sym, ◌∙◌, ap, cond, take, drop, length, get_or, subst, arith}
use Rattle.std.specs.Prelude.{slice_get, nat_lt}
use Rattle.std.proofs.lemmas.Bool.{cases_lt}
use Rattle.std.proofs.lemmas.Bool.Decides.{nat_tests}
use Rattle.std.proofs.lemmas.List.{take_more, drop-drop, get_or_push, get_or_append_left}
use Rattle.std.proofs.lemmas.Option.{get_or_from_slice_get, slice_get_within, slice_get-get_or}
use Rattle.plane_terms.specs.Rectangle.{Rectangle, IsWithin}
use Rattle.plane_terms.specs.Segment.{Segment, IsSegment, box_of}
use Rattle.plane_terms.proofs.ListLemmas.{every_append, every_map}
use Rattle.grid_plane.specs.Rectangles.{IsJoin}
use Rattle.sound_laws.proofs.Planes.{within_trans}
use Rattle.shape.specs.Frames.{IsRound, frame_count}

-- ---- a rectangle round segments
pub round_more : (r j : Rectangle) (ts : List Segment) (i : ℕ) (t : Segment) → i < length ts → t ≡ get_or ts i t → IsSegment t
    → IsJoin j r (box_of t) → IsRound r (take i ts) → IsRound j (take (i + 1) ts)
round_more r j ts i t l e g b h =
    let In : Rectangle → Segment → Type 0 = λ r t. IsSegment t × IsWithin (box_of t) r in
    let before : IsRound j (take i ts) = every_map (In r) (In j) (λ u k. (k.0, within_trans (box_of u) r j k.1 b.first)) (take i ts) h in
    let more : take (i + 1) ts ≡ take i ts ++ t ∷ [] = take_more ts i t l ∙ ap (λ u. take i ts ++ u ∷ []) (sym e) in
    subst (IsRound j) (sym more) (every_append (In j) (take i ts) (t ∷ []) before ((g, b.second), tt))

-- ---- one block more
pub rest_more : {A : Type 0} (n m : ℕ) (rest xs : List A) → m ≡ n + 1 → rest ≡ drop (32 * n) xs → drop 32 rest ≡ drop (32 * m) xs
rest_more n m rest xs e h =
    let next : 32 * n + 32 ≡ 32 * m = omega (arith, e) in
    ap (drop 32) h ∙ (drop-drop 32 (32 * n) xs ∙ ap (λ i. drop i xs) next)

pub frame_more : (rs : List Rectangle) (r : Rectangle) (rest ts : List Segment) → rest ≡ drop (32 * length rs) ts → IsRound r (take 32 rest)
    → ((k : ℕ) (f : Rectangle) → slice_get rs k ≡ Some f → IsRound f (take 32 (drop (32 * k) ts)))
    → (k : ℕ) (f : Rectangle) → slice_get (rs ++ r ∷ []) k ≡ Some f → IsRound f (take 32 (drop (32 * k) ts))
frame_more rs r rest ts h own before k f e = elim (cases_lt k (length rs)) [
  | inl l ↦ before k f (slice_get-get_or rs k f l ∙ ap Some (sym (get_or_append_left rs (r ∷ []) f k l) ∙ there))
  | inr l ↦
      let last : length rs ≡ k = omega (arith, slice_get_within (rs ++ r ∷ []) k f e, length-append rs (r ∷ [])) in
      let own' : IsRound r (take 32 (drop (32 * k) ts)) = subst (λ (n : ℕ). IsRound r (take 32 (drop (32 * n) ts))) last
      (subst (λ us. IsRound r (take 32 us)) h own) in
      subst (λ g. IsRound g (take 32 (drop (32 * k) ts))) (sym (get_or_push rs r f k last) ∙ there) own'
]
  where
    there : get_or (rs ++ r ∷ []) k f ≡ f
    there = get_or_from_slice_get (rs ++ r ∷ []) k f f e

pub counted : (rs : List Rectangle) (ts : List Segment) → 64 < length ts → 32 * length rs < length ts + 32
    → length (drop (32 * length rs) ts) ≤ 0 → length rs ≡ frame_count ts
counted rs ts m f z =
    let n = length rs in
    let all : length ts ≤ 32 * n = omega (arith, length-drop (32 * n) ts) in
    let many : nat_lt 64 (length ts) ≡ true = grind (arith, nat_tests) in
    let blocks : n ≡ (length ts + 31) / 32 = omega arith in
    blocks ∙ sym (ap (λ (b : Bool). cond b ((length ts + 31) / 32) 0) many)

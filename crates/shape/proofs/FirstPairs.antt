-- The first bad pair, found segment by segment and block by block.
use Rattle.std.proofs.Common.{◌≡◌, ℕ, ◌+◌, ◌-◌, ◌*◌, ◌/◌, ◌<◌, ◌≤◌, min, max, Bool, true, false, cond, inl, inr, List, Option, Some, None, length, take, drop, get_or, refl, sym, ap, subst, ◌∙◌, arith, length-drop}
use Rattle.std.specs.Prelude.{slice_get, nat_lt}
use Rattle.std.specs.Option.{option_or}
use Rattle.std.proofs.lemmas.Bool.{cases_lt}
use Rattle.std.proofs.lemmas.Bool.Decides.{nat_tests}
use Rattle.std.proofs.lemmas.Int.{ints}
use Rattle.std.proofs.lemmas.List.{get_or-take, get_or-drop, length-take}
use Rattle.std.proofs.lemmas.Option.{get_or_from_slice_get, slice_get_within, slice_get_read}
use Rattle.plane_terms.specs.Rectangle.{Rectangle, IsWithin, rects_meet}
use Rattle.plane_terms.specs.Segment.{Segment, IsSegment, Overlap, box_of}
use Rattle.plane_terms.specs.Share.{CrossOnce}
use Rattle.plane_terms.specs.ShapeFaults.{AreBad, IsPair, IsFirstPair}
use Rattle.plane_terms.proofs.ListLemmas.{every_got}
use Rattle.sound_laws.proofs.Meetings.{meets_wider}
use Rattle.shape.specs.declared.pairs.Pair.{Pair}
use Rattle.shape.specs.Frames.{AreFrames}
use Rattle.shape.specs.Pairs.{NoneFrom, IsNext, IsFirstFrom, NoneWithin, IsFound, IsFirstWithin, sooner_than, IsFrameOf}
use Rattle.shape.proofs.Bad.{bad_boxes}

-- ---- the segments of a pair
no_false : true ≡ false → ⊥
no_false e = cc

same_at : (ss : List Segment) (i : ℕ) (s u : Segment) → s ≡ get_or ss i s → slice_get ss i ≡ Some u → s ≡ u
same_at ss i s u e k = e ∙ get_or_from_slice_get ss i u s k

pub bad_at : (ss : List Segment) (i j : ℕ) (s t : Segment) → s ≡ get_or ss i s → t ≡ get_or ss j t → IsPair AreBad ss i j → AreBad s t
bad_at ss i j s t e k q =
    let first : AreBad s q.t = subst (λ (u : Segment). AreBad u q.t) (sym (same_at ss i s q.s e q.first)) q.says in
    subst (λ (u : Segment). AreBad s u) (sym (same_at ss j t q.t k q.second)) first

pub pair_at : (R : Segment → Segment → Type 0) (ss : List Segment) (i j : ℕ) (s t : Segment) → i < j → j < length ss → s ≡ get_or ss i s
    → t ≡ get_or ss j t → R s t → IsPair R ss i j
pair_at R ss i j s t l m e k h =
    record {
      ordered = l;
      s = s;
      t = t;
      first = slice_get_read ss (length ss) i s refl (omega arith) e;
      second = slice_get_read ss (length ss) j t refl m k;
      says = h;
    }

pub none_more : (ss : List Segment) (i c d : ℕ) → NoneFrom ss i c d → ¬ (IsPair AreBad ss i d) → NoneFrom ss i c (d + 1)
none_more ss i c d f n j l m q = elim (cases_lt j d) [
  | inl k ↦ f j l k q
  | inr k ↦ n (subst (λ (u : ℕ). IsPair AreBad ss i u) {x = j} {y = d} (omega arith) q)
]

pub not_from : {b : Bool} {A : Type 0} → (A → b ≡ true) → b ≡ false → A → ⊥
not_from f e a = no_false (sym (f a) ∙ e)

-- ---- a segment and a run
pub none_framed : (ss : List Segment) (i c d : ℕ) (s : Segment) (r : Rectangle) → s ≡ get_or ss i s → IsSegment s → IsFrameOf r ss c d
    → rects_meet (box_of s) r ≡ false → NoneFrom ss i c d
none_framed ss i c d s r e g f n j l m q =
    let t = f j q.t l m q.second in
    let b : AreBad s q.t = subst (λ (u : Segment). AreBad u q.t) (sym (same_at ss i s q.s e q.first)) q.says in
    no_false (sym (meets_wider (box_of s) (box_of q.t) r t.1 (bad_boxes s q.t g t.0 b)) ∙ n)

pub later_is : (ss : List Segment) (i c d : ℕ) (best : Option ℕ) → IsFirstFrom ss i (max c (i + 1)) d best → IsFirstFrom ss i c d best
later_is ss i c d None f = λ j l m q. f j (omega (arith, q.ordered)) m q
later_is ss i c d (Some j) n =
    record {
      pair = n.pair;
      least = omega (arith, n.least);
      below = n.below;
      first = λ k l m q. n.first k (omega (arith, q.ordered)) m q;
    }

-- ---- two runs
pub within_more : (ss : List Segment) (a b c d : ℕ) → NoneWithin ss a b c d → NoneFrom ss b c d → NoneWithin ss a (b + 1) c d
within_more ss a b c d f n i l m = elim (cases_lt i b) [
  | inl k ↦ f i l k
  | inr k ↦ subst (λ (u : ℕ). NoneFrom ss u c d) {x = b} {y = i} (omega arith) n
]

none_joined : (ss : List Segment) (i c d e : ℕ) → NoneFrom ss i c d → NoneFrom ss i d e → NoneFrom ss i c e
none_joined ss i c d e f g j l m q = elim (cases_lt j d) [ inl k ↦ f j l k q | inr k ↦ g j k m q ]

within_joined : (ss : List Segment) (a b c d e : ℕ) → NoneWithin ss a b c d → NoneWithin ss a b d e → NoneWithin ss a b c e
within_joined ss a b c d e f g i l m = none_joined ss i c d e (f i l m) (g i l m)

-- a run more
pub extended : (ss : List Segment) (a b c d e : ℕ) (best found : Option Pair) → c ≤ d → d ≤ e → IsFirstWithin ss a b c d best
    → IsFirstWithin ss a (sooner_than b best) d e found → IsFirstWithin ss a b c e (option_or found best)
extended ss a b c d e None None l m f g = within_joined ss a b c d e f g
extended ss a b c d e (Some p) None l m f g =
    let n = f.next in
    record {
      least = f.least;
      below = f.below;
      next = record { pair = n.pair; least = n.least; below = omega (arith, n.below); first = n.first };
      first = within_joined ss a p.i c d e f.first g;
    }
extended ss a b c d e None (Some q) l m f g =
    let n = g.next in
    record {
      least = g.least;
      below = g.below;
      next = record {
        pair = n.pair;
        least = omega (arith, n.least);
        below = n.below;
        first = none_joined ss q.i c d q.j (f q.i g.least g.below) n.first;
      };
      first = within_joined ss a q.i c d e (λ i u v. f i u (omega (arith, v, g.below))) g.first;
    }
extended ss a b c d e (Some p) (Some q) l m f g =
    let n = g.next in
    record {
      least = g.least;
      below = omega (arith, g.below, f.below);
      next = record {
        pair = n.pair;
        least = omega (arith, n.least);
        below = n.below;
        first = none_joined ss q.i c d q.j (f.first q.i g.least g.below) n.first;
      };
      first = within_joined ss a q.i c d e (λ i u v. f.first i u (omega (arith, v, g.below))) g.first;
    }

-- numbers past the list make no pair
pub widened : (ss : List Segment) (a b y c d z : ℕ) (best : Option Pair) → b ≤ y → d ≤ z → ((i : ℕ) → i < length ss → i < y → i < b)
    → ((j : ℕ) → j < length ss → j < z → j < d) → IsFirstWithin ss a b c d best → IsFirstWithin ss a y c z best
widened ss a b y c d z None l m h k f =
    λ i u v j w x q. f i u (h i (slice_get_within ss i q.s q.first) v) j w (k j (slice_get_within ss j q.t q.second) x) q
widened ss a b y c d z (Some p) l m h k f =
    let n = f.next in
    record {
      least = f.least;
      below = omega (arith, f.below);
      next = record { pair = n.pair; least = n.least; below = omega (arith, n.below); first = n.first };
      first = λ i u v j w x q. f.first i u v j w (k j (slice_get_within ss j q.t q.second) x) q;
    }

-- ---- blocks and their frames
got_within : {X : Type 0} (xs : List X) (n m i j : ℕ) (x : X) → slice_get xs j ≡ Some x → j ≡ n + i → i < m
    → slice_get (take m (drop n xs)) i ≡ Some x
got_within xs n m i j x e s l =
    let there : get_or xs (n + i) x ≡ x = ap (λ (k : ℕ). get_or xs k x) (sym s) ∙ get_or_from_slice_get xs j x x e in
    let same : get_or (take m (drop n xs)) i x ≡ x = get_or-take m (drop n xs) i x l ∙ (get_or-drop n xs i x ∙ there) in
    slice_get_read (take m (drop n xs)) (length (take m (drop n xs))) i x refl (inside xs n m i j s l (slice_get_within xs j x e)) (sym same)
  where
    inside : {X : Type 0} (xs : List X) (n m i j : ℕ) → j ≡ n + i → i < m → j < length xs → i < length (take m (drop n xs))
    inside xs n m i j s l h = omega (arith, length-take m (drop n xs), length-drop n xs)

pub frame_at : (rs : List Rectangle) (ss : List Segment) (k : ℕ) (r : Rectangle) → AreFrames rs ss → k < length rs → r ≡ get_or rs k r
    → IsFrameOf r ss (32 * k) (32 * k + 32)
frame_at rs ss k r f l e j t u v g =
    every_got (λ (t : Segment). IsSegment t × IsWithin (box_of t) r) (take 32 (drop (32 * k) ss)) (j - 32 * k) t
    (f.round k r (slice_get_read rs (length rs) k r refl l e)) (got_within ss (32 * k) 32 (j - 32 * k) j t g (omega arith) (omega arith))

meets_turned : (r s : Rectangle) → rects_meet r s ≡ true → rects_meet s r ≡ true
meets_turned r s e = grind (arith, ints)

-- frames that are apart have no bad pair between their blocks
pub none_apart : (ss : List Segment) (a b c d : ℕ) (r s : Rectangle) → IsFrameOf r ss a b → IsFrameOf s ss c d → rects_meet r s ≡ false
    → NoneWithin ss a b c d
none_apart ss a b c d r s f g n i l m j u v q =
    let first = f i q.s l m q.first in
    let second = g j q.t u v q.second in
    let boxes = bad_boxes q.s q.t first.0 second.0 q.says in
    let wider = meets_wider (box_of q.s) (box_of q.t) s second.1 boxes in
    let both = meets_wider s (box_of q.s) r first.1 (meets_turned (box_of q.s) s wider) in
    no_false (sym (meets_turned s r both) ∙ n)

pub sooner_below : (ss : List Segment) (a b c d : ℕ) (best : Option Pair) → IsFirstWithin ss a b c d best → sooner_than b best ≤ b
sooner_below ss a b c d None f = omega arith
sooner_below ss a b c d (Some p) f = omega (arith, f.below)

sooner_clamped : (n b : ℕ) (best : Option Pair) → sooner_than (min n b) best ≤ sooner_than b best
sooner_clamped n b None = omega arith
sooner_clamped n b (Some p) = omega arith

clamped_sooner : (n b : ℕ) (best : Option Pair) (i : ℕ) → i < n → i < sooner_than b best → i < sooner_than (min n b) best
clamped_sooner n b None i l m = omega arith
clamped_sooner n b (Some p) i l m = m

pub bounds_moved : (ss : List Segment) (a b c d w x y z : ℕ) (best : Option Pair) → a ≡ w → b ≡ x → c ≡ y → d ≡ z
    → IsFirstWithin ss a b c d best → IsFirstWithin ss w x y z best
bounds_moved ss a b c d w x y z best e f g h k =
    subst (λ (n : ℕ). IsFirstWithin ss n x y z best) e
    (subst (λ (n : ℕ). IsFirstWithin ss a n y z best) f
    (subst (λ (n : ℕ). IsFirstWithin ss a b n z best) g (subst (λ (n : ℕ). IsFirstWithin ss a b c n best) h k)))

-- two blocks of which the frames meet
pub block_more : (ss : List Segment) (a b c d e : ℕ) (best found : Option Pair) → c ≤ d → d ≤ e → IsFirstWithin ss a b c d best
    → IsFirstWithin ss a (sooner_than (min (length ss) b) best) d (min (length ss) e) found
    → IsFirstWithin ss a b c e (option_or found best)
block_more ss a b c d e best found l m f g =
    extended ss a b c d e best found l m f
    (widened ss a (sooner_than (min (length ss) b) best) (sooner_than b best) d (min (length ss) e) e found
    (sooner_clamped (length ss) b best) (omega arith) (clamped_sooner (length ss) b best) (λ j u v. omega arith) g)

-- two blocks of which the frames are apart
pub block_apart : (ss : List Segment) (a b c d e : ℕ) (best : Option Pair) (r s : Rectangle) → c ≤ d → d ≤ e
    → IsFirstWithin ss a b c d best → IsFrameOf r ss a b → IsFrameOf s ss d e → rects_meet r s ≡ false → IsFirstWithin ss a b c e best
block_apart ss a b c d e best r s l m f g h n =
    extended ss a b c d e best None l m f
    (λ i u v. none_apart ss a b d e r s g h n i u (omega (arith, v, sooner_below ss a b c d best f)))

-- ---- all pairs
abbrev pub NoneBefore : List Segment → ℕ → Type 0
NoneBefore ss n = (i j : ℕ) → i < n → ¬ (IsPair AreBad ss i j)

pub first_is : (ss : List Segment) (a b c d : ℕ) (p : Pair) → c ≤ a + 1 → length ss ≤ d → NoneBefore ss a → IsFound ss a b c d p
    → IsFirstPair AreBad ss p.i p.j
first_is ss a b c d p l m f g = record {
  pair = g.next.pair;
  first = λ i j o q. elim o [
    | inl k ↦ elim (cases_lt i a) [
      | inl u ↦ f i j u q
      | inr u ↦ g.first i u k j (omega (arith, q.ordered)) (omega (arith, slice_get_within ss j q.t q.second)) q
    ]
    | inr k ↦ g.next.first j (omega (arith, q.ordered, k.0, g.least)) k.1 (subst (λ (n : ℕ). IsPair AreBad ss n j) k.0 q)
  ];
}

pub before_more : (ss : List Segment) (a b c d : ℕ) → c ≤ a + 1 → length ss ≤ d → NoneBefore ss a → NoneWithin ss a b c d → NoneBefore ss b
before_more ss a b c d l m f g i j u q = elim (cases_lt i a) [
  | inl k ↦ f i j k q
  | inr k ↦ g i k u j (omega (arith, q.ordered)) (omega (arith, slice_get_within ss j q.t q.second)) q
]

pub before_all : (ss : List Segment) (n : ℕ) → length ss ≤ n → NoneBefore ss n → (i j : ℕ) → ¬ (IsPair AreBad ss i j)
before_all ss n l f i j q = f i j (omega (arith, slice_get_within ss i q.s q.first)) q

pub one_found : (ss : List Segment) (i c d j : ℕ) → IsNext ss i c d j → IsFound ss i (i + 1) c d (record { i = i; j = j })
one_found ss i c d j n =
    record { least = omega arith; below = omega arith; next = n; first = λ k l m. absurd (omega (arith, l, m)) }

pub one_within : (ss : List Segment) (i c d : ℕ) → NoneFrom ss i c d → NoneWithin ss i (i + 1) c d
one_within ss i c d f k l m = subst (λ (n : ℕ). NoneFrom ss n c d) {x = i} {y = k} (omega arith) f

pub blocks_hold : (rs : List Rectangle) (ss : List Segment) → AreFrames rs ss → 64 < length ss → length ss ≤ 32 * length rs
blocks_hold rs ss f l =
    let many : nat_lt 64 (length ss) ≡ true = grind (arith, nat_tests) in
    let count : length rs ≡ (length ss + 31) / 32 = f.count ∙ ap (λ (b : Bool). cond b ((length ss + 31) / 32) 0) many in
    omega (arith, count)

-- ---- what the first bad pair shares
pub along_first : (ss : List Segment) (i j : ℕ) (s t : Segment) → IsFirstPair AreBad ss i j → s ≡ get_or ss i s → t ≡ get_or ss j t
    → Overlap s t → IsFirstPair Overlap ss i j
along_first ss i j s t f e k o =
    record {
      pair = pair_at Overlap ss i j s t f.pair.ordered (slice_get_within ss j f.pair.t f.pair.second) e k o;
      first = f.first;
    }

pub cross_first : (ss : List Segment) (i j : ℕ) (s t : Segment) → IsFirstPair AreBad ss i j → s ≡ get_or ss i s → t ≡ get_or ss j t
    → (Overlap s t → ⊥) → IsFirstPair CrossOnce ss i j
cross_first ss i j s t f e k n =
    record {
      pair = pair_at CrossOnce ss i j s t f.pair.ordered (slice_get_within ss j f.pair.t f.pair.second) e k
          (crosses (bad_at ss i j s t e k f.pair));
      first = f.first;
    }
  where
    crosses : AreBad s t → CrossOnce s t
    crosses (inl c) = c
    crosses (inr o) = absurd (n o)

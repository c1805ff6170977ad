-- The segments of a shape in blocks: how many there are, what is left from one on, and a block that does not come near.
use Rattle.std.proofs.Common.{◌≡◌, ◌⊎◌, inl, inr, ℕ, max, min, ◌+◌, ◌*◌, ◌/◌, ◌<◌, ◌≤◌, Bool, true, false, List, [], ◌∷◌, ◌++◌, refl, sym, ◌∙◌, ap, cond, take, drop, length, arith, add-one, append-nil, append_assoc, subst}
use Rattle.std.specs.Prelude.{flat_map, nat_lt, ◌==◌}
use Rattle.std.proofs.Math.Nat.{mul-suc, mul-zero}
use Rattle.std.proofs.lemmas.Bool.{false≢true}
use Rattle.std.proofs.lemmas.Grind.{flat_map-append}
use Rattle.std.proofs.lemmas.Bool.Decides.{nat_tests}
use Rattle.std.proofs.lemmas.List.{take-append-drop, drop-drop, drop_all, take_all}
use Rattle.plane_terms.specs.Lists.{Every}
use Rattle.plane_terms.specs.Rectangle.{Rectangle, IsWithin, rects_meet}
use Rattle.plane_terms.specs.Segment.{Segment, IsSegment, box_of}
use Rattle.plane_terms.specs.Shape.{Shape, segments_of, envelope_of}
use Rattle.plane_terms.specs.Cell.{Cell}
use Rattle.topology_terms.specs.Cells.{box_meets}
use Rattle.shape.specs.Frames.{IsRound, frame_count}
use Rattle.rule_laws.proofs.Envelopes.{BothEnds, LiesIn, segments_ends}
use Rattle.rule_loops.specs.Blocks.{block_size, block_count, left_from, block_of}
use Rattle.rule_loops.specs.Ahead.{IsOff}
use Rattle.rule_loops.proofs.Boxes.{box_within, wider_meets}
use Rattle.rule_loops.proofs.Clear.{off_round, off_from, none_off}

-- ---- how many there are
pub record Many (ts : List Segment) : Type 0 where
  pub long : 64 < length ts
  pub size : block_size ts ≡ 32
  pub blocks : block_count ts ≡ (length ts + 31) / 32
  pub frames : frame_count ts ≡ (length ts + 31) / 32

pub record Few (ts : List Segment) : Type 0 where
  pub short : length ts ≤ 64
  pub size : block_size ts ≡ 64
  pub blocks : block_count ts ≡ 1
  pub frames : frame_count ts ≡ 0

many_or_few : (ts : List Segment) → Many ts ⊎ Few ts
many_or_few ts = by_test (nat_lt 64 (length ts)) refl
  where
    by_test : (b : Bool) → nat_lt 64 (length ts) ≡ b → Many ts ⊎ Few ts
    by_test true e = inl (record {
      long = grind (arith, nat_tests);
      size = ap (λ (b : Bool). cond b 32 64) e;
      blocks = ap (λ (b : Bool). cond b ((length ts + 31) / 32) 1) e;
      frames = ap (λ (b : Bool). cond b ((length ts + 31) / 32) 0) e;
    })
    by_test false e = inr (record {
      short = grind (arith, nat_tests);
      size = ap (λ (b : Bool). cond b 32 64) e;
      blocks = ap (λ (b : Bool). cond b ((length ts + 31) / 32) 1) e;
      frames = ap (λ (b : Bool). cond b ((length ts + 31) / 32) 0) e;
    })

pub blocks_counted : (n m : ℕ) (ts : List Segment) → n ≡ frame_count ts → m ≡ max n 1 → m ≡ block_count ts
blocks_counted n m ts e h = elim (many_or_few ts) [
  | inl a ↦ let l = a.long in let b = a.blocks in let f = a.frames in omega (arith, e, h)
  | inr a ↦ let b = a.blocks in let f = a.frames in omega (arith, e, h)
]

-- there are frames where the blocks are of 32
pub are_many : (n : ℕ) (ts : List Segment) → n ≡ frame_count ts → false ≡ (n == 0) → Many ts
are_many n ts e s = elim (many_or_few ts) [ inl a ↦ a | inr a ↦ absurd (none (e ∙ a.frames) s) ]
  where
    none : n ≡ 0 → false ≡ (n == 0) → ⊥
    none z s = false≢true (s ∙ ap (λ m. m == 0) z)

pub are_few : (n : ℕ) (ts : List Segment) → n ≡ frame_count ts → true ≡ (n == 0) → Few ts
are_few n ts e s = elim (many_or_few ts) [ inl a ↦ absurd (some a) | inr a ↦ a ]
  where
    zero_is : n ≡ 0
    zero_is = grind (arith, nat_tests)

    some : Many ts → ⊥
    some a = let l = a.long in let f = a.frames in omega (arith, e, zero_is)

pub frame_within : (n : ℕ) (ts : List Segment) (k : ℕ) → Many ts → n ≡ frame_count ts → k < block_count ts → k < n
frame_within n ts k a e l = let b = a.blocks in let f = a.frames in omega (arith, e, l)

pub begins_within : (ts : List Segment) (k : ℕ) → Many ts → k < block_count ts → 32 * k < length ts
begins_within ts k a l = let b = a.blocks in omega (arith, l)

-- ---- what is left
pub left_all : (ts : List Segment) → left_from 0 ts ≡ ts
left_all ts = ap (λ n. drop n ts) (mul-zero (block_size ts))

pub left_block : (k : ℕ) (ts : List Segment) → left_from k ts ≡ block_of k ts ++ left_from (k + 1) ts
left_block k ts =
    let n = block_size ts in
    let next : n * k + n ≡ n * (k + 1) = sym (mul-suc n k) ∙ ap (λ m. n * m) (sym (add-one k)) in
    sym (take-append-drop n (left_from k ts)) ∙ ap (λ us. block_of k ts ++ us) (drop-drop n (n * k) ts ∙ ap (λ m. drop m ts) next)

pub left_none : (k : ℕ) (ts : List Segment) → block_count ts ≤ k → left_from k ts ≡ []
left_none k ts l = elim (many_or_few ts) [
  | inl a ↦
      let b = a.blocks in
      let past : length ts ≤ 32 * k = omega (arith, l) in
      ap (λ n. drop (n * k) ts) a.size ∙ drop_all (32 * k) ts past
  | inr a ↦
      let b = a.blocks in
      let s = a.short in
      let past : length ts ≤ 64 * k = omega (arith, l) in
      ap (λ n. drop (n * k) ts) a.size ∙ drop_all (64 * k) ts past
]

-- what is left behind blocks that reach to a number from which on none comes near
pub left_off : (s : Segment) (end n k : ℕ) (ts : List Segment) → n ≤ k → min end (length ts) ≤ block_size ts * n → IsOff s (drop end ts)
    → IsOff s (left_from k ts)
left_off s end n k ts l h o = off_from s end (block_size ts * k) ts further o
  where
    further : min end (length ts) ≤ block_size ts * k
    further = elim (many_or_few ts) [
      | inl a ↦
          let u : min end (length ts) ≤ 32 * n = subst (λ (i : ℕ). min end (length ts) ≤ i * n) a.size h in
          subst (λ (i : ℕ). min end (length ts) ≤ i * k) (sym a.size) (omega (arith, l, u))
      | inr a ↦
          let u : min end (length ts) ≤ 64 * n = subst (λ (i : ℕ). min end (length ts) ≤ i * n) a.size h in
          subst (λ (i : ℕ). min end (length ts) ≤ i * k) (sym a.size) (omega (arith, l, u))
    ]

-- ---- one of them
pub only_block : (ts : List Segment) (k : ℕ) → Few ts → k < block_count ts → block_of k ts ≡ ts
only_block ts k a l =
    let b = a.blocks in
    let first : k ≡ 0 = omega (arith, l) in
    ap (λ m. block_of m ts) first ∙ (ap (take (block_size ts)) (left_all ts) ∙ (ap (λ n. take n ts) a.size ∙ take_all 64 ts a.short))

pub block_is : (ts : List Segment) (k : ℕ) → Many ts → block_of k ts ≡ take 32 (drop (32 * k) ts)
block_is ts k a = ap (λ n. take n (drop (n * k) ts)) a.size

round_all : (r : Rectangle) (ts : List Segment) → Every IsSegment ts → Every (BothEnds (LiesIn r)) ts → IsRound r ts
round_all r [] u h = tt
round_all r (t ∷ ts) u h = ((u.0, box_within t r h.0), round_all r ts u.1 h.1)

pub round_env : (s : Shape) → Every IsSegment (segments_of s) → IsRound (envelope_of s) (segments_of s)
round_env s u = round_all (envelope_of s) (segments_of s) u (segments_ends s)

-- ---- a block that comes near, or not
module _ (f : Segment → Segment → List Cell)
    (apart : (s t : Segment) → IsSegment s → IsSegment t → box_meets s t ≡ false → f s t ≡ []) where
  pub none_near : (s : Segment) (r : Rectangle) (ts : List Segment) → IsSegment s → IsRound r ts → rects_meet (box_of s) r ≡ false
      → flat_map (f s) ts ≡ []
  none_near s r ts g h n = none_off f apart s ts g (off_round s r ts h n)

  nowhere : (s : Segment) (r env : Rectangle) → IsWithin (box_of s) r → rects_meet r env ≡ false → rects_meet (box_of s) env ≡ false
  nowhere s r env w n = by_test (rects_meet (box_of s) env) refl
    where
      by_test : (b : Bool) → rects_meet (box_of s) env ≡ b → b ≡ false
      by_test true e = absurd (false≢true (sym n ∙ wider_meets (box_of s) env r w e))
      by_test false e = refl

  pub none_far : (r env : Rectangle) (ss ts : List Segment) → IsRound r ss → IsRound env ts → rects_meet r env ≡ false
      → flat_map (λ (s : Segment). flat_map (f s) ts) ss ≡ []
  none_far r env [] ts h k n = refl
  none_far r env (s ∷ ss) ts h k n =
      rw (none_near s env ts h.0.0 k (nowhere s r env h.0.1 n)) (none_far r env ss ts h.1 k n)

-- what comes of the blocks so far, with the next one
pub block_more : {B : Type 0} (f : Segment → List B) (k : ℕ) (ts : List Segment) (done new all : List B)
    → new ≡ done ++ flat_map f (block_of k ts) → done ++ flat_map f (left_from k ts) ≡ all → new ++ flat_map f (left_from (k + 1) ts) ≡ all
block_more f k ts done new all n h =
    let later = flat_map f (left_from (k + 1) ts) in
    let both : flat_map f (left_from k ts) ≡ flat_map f (block_of k ts) ++ later = ap (flat_map f) (left_block k ts)
    ∙ flat_map-append f (block_of k ts) (left_from (k + 1) ts) in
    ap (λ cs. cs ++ later) n ∙ (append_assoc done (flat_map f (block_of k ts)) later ∙ (sym (ap (λ ms. done ++ ms) both) ∙ h))

pub block_same : {B : Type 0} (f : Segment → List B) (k : ℕ) (ts : List Segment) (done new all : List B)
    → flat_map f (block_of k ts) ≡ [] → new ≡ done → done ++ flat_map f (left_from k ts) ≡ all → new ++ flat_map f (left_from (k + 1) ts) ≡ all
block_same f k ts done new all z n h = block_more f k ts done new all (n ∙ (sym (append-nil done) ∙ ap (λ ms. done ++ ms) (sym z))) h

pub rest_done : {B : Type 0} (f : Segment → List B) (us : List Segment) (new all : List B) → flat_map f us ≡ []
    → new ++ flat_map f us ≡ all → new ≡ all
rest_done f us new all z h = sym (append-nil new) ∙ (ap (λ cs. new ++ cs) (sym z) ∙ h)

pub blocks_done : {B : Type 0} (f : Segment → List B) (k : ℕ) (ts : List Segment) (new all : List B) → block_count ts ≤ k
    → new ++ flat_map f (left_from k ts) ≡ all → new ≡ all
blocks_done f k ts new all l h = rest_done f (left_from k ts) new all (ap (flat_map f) (left_none k ts l)) h

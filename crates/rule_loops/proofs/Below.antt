-- A place and the blocks of a shape: frames that a place is out of, and what is counted block by block.
use Rattle.std.proofs.Common.{◌≡◌, ℕ, zero, suc, ◌+◌, ◌≤◌, ℤ, pos, negsuc, ◌-ℤ◌, ◌*ℤ◌, ◌≤ℤ◌, ◌<ℤ◌, Bool, true, false, List, [], ◌∷◌, refl, sym, ◌∙◌, ap, cond, arith, inl, inr, zero-add}
use Rattle.std.specs.Prelude.{not, ◌||◌, int_lt}
use Rattle.std.specs.Int.{int_signum}
use Rattle.std.specs.List.{list_any}
use Rattle.std.proofs.lemmas.Bool.{false≢true}
use Rattle.std.proofs.lemmas.Bool.Decides.{Decides-and, nat_tests}
use Rattle.std.proofs.lemmas.Int.{ints, clamps}
use Rattle.std.proofs.lemmas.List.Folds.{list_any-append}
use Rattle.plane_terms.specs.Lists.{Every, how_many, is_odd}
use Rattle.plane_terms.specs.Point.{Place, point_at}
use Rattle.plane_terms.specs.Rectangle.{Rectangle, IsWithin, rect_at, is_within}
use Rattle.plane_terms.specs.Segment.{Segment, IsSegment, box_of}
use Rattle.plane_terms.specs.Share.{turn}
use Rattle.plane_terms.specs.Line.{holds_place, box_holds}
use Rattle.plane_terms.specs.Polygon.{counts}
use Rattle.plane_terms.proofs.ListLemmas.{how_many_joined}
use Rattle.plane_terms.proofs.Truths.{both_parts}
use Rattle.number_laws.proofs.Order.{product_at_least, cases_order_ℤ}
use Rattle.number_laws.proofs.Ring.{num, ◌⊖◌, ◌⊗◌, same_by}
use Rattle.number_laws.proofs.Tests.{Decides-int_le, Decides-int_lt}
use Rattle.cell_laws.proofs.Counted.{counted, not_counted}
use Rattle.cell_laws.proofs.OnLine.{at_itself}
use Rattle.shape.specs.Frames.{IsRound}
use Rattle.rule_loops.specs.Blocks.{left_from, block_of, block_count, reaches_below}
use Rattle.rule_loops.specs.Views.{up_to_three}
use Rattle.rule_loops.proofs.Blocked.{left_all, left_block, left_none}
use Rattle.rule_loops.proofs.Seen.{none_many, held_wider, not_from}

-- ---- a place that the frame does not hold
not_held : (r : Rectangle) (q : Place) → is_within (rect_at q) r ≡ false → (t : Segment) → IsSegment t × IsWithin (box_of t) r
    → holds_place t q ≡ false
not_held r q n t u = not_from (holds_place t q) (is_within (rect_at q) r)
    (λ h. held_wider q (box_of t) r u.1 (both_parts _ (box_holds (box_of t) q) h).1) n

none_any : {A : Type 0} (test : A → Bool) (P : A → Type 0) → ((x : A) → P x → test x ≡ false) → (xs : List A) → Every P xs
    → list_any test xs ≡ false
none_any test P m [] u = refl
none_any test P m (x ∷ xs) u = rw (m x u.0) (none_any test P m xs u.1)

pub none_holds : (r : Rectangle) (q : Place) (ts : List Segment) → IsRound r ts → is_within (rect_at q) r ≡ false
    → list_any (λ t. holds_place t q) ts ≡ false
none_holds r q ts u n = none_any (λ (t : Segment). holds_place t q) (λ (t : Segment). IsSegment t × IsWithin (box_of t) r) (not_held r q n) ts u

pub none_counted : (r : Rectangle) (q : Place) (ts : List Segment) → IsRound r ts → is_within (rect_at q) r ≡ false
    → how_many (λ t. holds_place t q) ts ≡ 0
none_counted r q ts u n = none_many (λ (t : Segment). holds_place t q) (λ (t : Segment). IsSegment t × IsWithin (box_of t) r) (not_held r q n) ts u

-- ---- a place below or beside the frame
-- a place no higher than both ends is not left of a segment
not_left : (lx ly hx hy x y : ℤ) → lx ≤ℤ x → x ≤ℤ hx → y ≤ℤ ly → y ≤ℤ hy → ((hx -ℤ lx) *ℤ (y -ℤ ly) -ℤ (hy -ℤ ly) *ℤ (x -ℤ lx)) ≤ℤ pos 0
not_left lx ly hx hy x y a b c d =
    let e : (hx -ℤ lx) *ℤ (y -ℤ ly) -ℤ (hy -ℤ ly) *ℤ (x -ℤ lx) ≡ pos 0 -ℤ (x -ℤ lx) *ℤ (hy -ℤ y) -ℤ (hx -ℤ x) *ℤ (ly -ℤ y) =
    same_by ((num hx ⊖ num lx) ⊗ (num y ⊖ num ly) ⊖ (num hy ⊖ num ly) ⊗ (num x ⊖ num lx))
    (num (pos 0) ⊖ (num x ⊖ num lx) ⊗ (num hy ⊖ num y) ⊖ (num hx ⊖ num x) ⊗ (num ly ⊖ num y)) (omega arith) in
    let f = product_at_least (x -ℤ lx) (hy -ℤ y) (omega (arith, ints)) (omega (arith, ints)) in
    let g = product_at_least (hx -ℤ x) (ly -ℤ y) (omega (arith, ints)) (omega (arith, ints)) in
    omega (arith, ints, e, f, g)

not_positive : (z : ℤ) → z ≤ℤ pos 0 → int_lt (pos 0) (int_signum z) ≡ false
not_positive (pos zero) h = refl
not_positive (pos (suc n)) h = absurd (omega (arith, ints))
not_positive (negsuc n) h = refl

not_below : (r : Rectangle) (q : Place) → reaches_below r q ≡ false → (t : Segment) → IsSegment t × IsWithin (box_of t) r
    → counts t (point_at q) ≡ false
not_below r q n t u = elim (cases_order_ℤ q.x t.lo.x) [
  | inl a ↦ out (λ h. let l = h.0 in absurd (omega (arith, ints)))
  | inr a ↦ elim (cases_order_ℤ q.x t.hi.x) [
    | inr b ↦ out (λ h. let l = h.1 in absurd (omega (arith, ints)))
    | inl b ↦ elim (cases_order_ℤ r.y0 q.y) [
      | inl c ↦ absurd (false≢true (sym n ∙ reached (omega (arith, ints, u.1.left)) (omega (arith, ints, u.1.right)) c))
      | inr c ↦ sym (counted t q (point_at q) (at_itself q) (a, b)) ∙ not_positive (turn t q)
          (not_left t.lo.x t.lo.y t.hi.x t.hi.y q.x q.y a (omega (arith, ints)) (omega (arith, ints, clamps, u.1.below))
          (omega (arith, ints, clamps, u.1.below)))
    ]
  ]
]
  where
    out : ¬ ((t.lo.x ≤ℤ q.x) × (q.x <ℤ t.hi.x)) → counts t (point_at q) ≡ false
    out = not_counted t q (point_at q) (at_itself q)

    reached : r.x0 ≤ℤ q.x → q.x <ℤ r.x1 → r.y0 <ℤ q.y → reaches_below r q ≡ true
    reached a b c =
        (Decides-and _ _ (Decides-int_le r.x0 q.x) (Decides-and _ _ (Decides-int_lt q.x r.x1) (Decides-int_lt r.y0 q.y))).1 (a, (b, c))

pub none_below : (r : Rectangle) (q : Place) (ts : List Segment) → IsRound r ts → reaches_below r q ≡ false
    → how_many (λ s. counts s (point_at q)) ts ≡ 0
none_below r q ts u n = none_many (λ (t : Segment). counts t (point_at q)) (λ (t : Segment). IsSegment t × IsWithin (box_of t) r) (not_below r q n) ts u

-- ---- odd or even
sum_odd : (m n : ℕ) → is_odd (m + n) ≡ cond (is_odd m) (not (is_odd n)) (is_odd n)
sum_odd zero n = let e : 0 + n ≡ n = omega arith in ap is_odd e
sum_odd (suc m) n =
    let e : suc m + n ≡ suc (m + n) = omega arith in
    ap is_odd e ∙ (ap not (sum_odd m n) ∙ turned (is_odd m) (is_odd n))
  where
    turned : (a b : Bool) → not (cond a (not b) b) ≡ cond (not a) (not b) b
    turned true true = refl
    turned true false = refl
    turned false b = refl

turned_later : (odd new : Bool) (b r : ℕ) → new ≡ cond (is_odd b) (not odd) odd
    → is_odd (cond new 1 0 + r) ≡ is_odd (cond odd 1 0 + (b + r))
turned_later odd new b r e =
    sum_odd (cond new 1 0) r ∙ (same odd new (is_odd b) (is_odd r) e
    ∙ sym (sum_odd (cond odd 1 0) (b + r) ∙ ap (λ v. cond (is_odd (cond odd 1 0)) (not v) v) (sum_odd b r)))
  where
    same : (odd new b r : Bool) → new ≡ cond b (not odd) odd
        → cond (is_odd (cond new 1 0)) (not r) r ≡ cond (is_odd (cond odd 1 0)) (not (cond b (not r) r)) (cond b (not r) r)
    same true new true true e = rw e refl
    same true new true false e = rw e refl
    same true new false r e = rw e refl
    same false new true r e = rw e refl
    same false new false r e = rw e refl

at_most : (c : ℕ) → c ≤ 3 → c ≡ up_to_three (c + 0)
at_most c g = grind (arith, nat_tests)

-- ---- block by block
module _ (test : Segment → Bool) (ts : List Segment) (k : ℕ) where
  many_left : how_many test (left_from k ts) ≡ how_many test (block_of k ts) + how_many test (left_from (k + 1) ts)
  many_left = ap (how_many test) (left_block k ts) ∙ how_many_joined test (block_of k ts) (left_from (k + 1) ts)

  any_left : list_any test (left_from k ts) ≡ (list_any test (block_of k ts) || list_any test (left_from (k + 1) ts))
  any_left = ap (list_any test) (left_block k ts) ∙ list_any-append test (block_of k ts) (left_from (k + 1) ts)

  pub any_more : list_any test (block_of k ts) ≡ false → list_any test (left_from k ts) ≡ list_any test ts
      → list_any test (left_from (k + 1) ts) ≡ list_any test ts
  any_more n h = sym (any_left ∙ ap (λ b. b || list_any test (left_from (k + 1) ts)) n) ∙ h

  pub any_here : list_any test (block_of k ts) ≡ true → list_any test (left_from k ts) ≡ list_any test ts → list_any test ts ≡ true
  any_here e h = sym h ∙ (any_left ∙ ap (λ b. b || list_any test (left_from (k + 1) ts)) e)

  pub any_end : block_count ts ≤ k → list_any test (left_from k ts) ≡ list_any test ts → list_any test ts ≡ false
  any_end l h = sym h ∙ ap (list_any test) (left_none k ts l)

  pub three_later : (count more : ℕ) → more ≡ up_to_three (how_many test (block_of k ts))
      → up_to_three (count + how_many test (left_from k ts)) ≡ up_to_three (how_many test ts)
      → up_to_three (up_to_three (count + more) + how_many test (left_from (k + 1) ts)) ≡ up_to_three (how_many test ts)
  three_later count more e h = rw e (steps count (how_many test (block_of k ts)) (how_many test (left_from (k + 1) ts))
      ∙ (ap (λ n. up_to_three (count + n)) (sym many_left) ∙ h))
    where
      steps : (c b r : ℕ) → up_to_three (up_to_three (c + up_to_three b) + r) ≡ up_to_three (c + (b + r))
      steps c b r = grind (arith, nat_tests)

  pub three_end : (count : ℕ) → count ≤ 3 → block_count ts ≤ k
      → up_to_three (count + how_many test (left_from k ts)) ≡ up_to_three (how_many test ts) → count ≡ up_to_three (how_many test ts)
  three_end count f l h = last (how_many test (left_from k ts)) (ap (how_many test) (left_none k ts l)) h
    where
      last : (n : ℕ) → n ≡ 0 → up_to_three (count + n) ≡ up_to_three (how_many test ts) → count ≡ up_to_three (how_many test ts)
      last n z e = at_most count f ∙ (ap (λ m. up_to_three (count + m)) (sym z) ∙ e)

  pub odd_later : (odd new : Bool) → new ≡ cond (is_odd (how_many test (block_of k ts))) (not odd) odd
      → is_odd (cond odd 1 0 + how_many test (left_from k ts)) ≡ is_odd (how_many test ts)
      → is_odd (cond new 1 0 + how_many test (left_from (k + 1) ts)) ≡ is_odd (how_many test ts)
  odd_later odd new e h =
      let b = how_many test (block_of k ts) in
      let r = how_many test (left_from (k + 1) ts) in
      turned_later odd new b r e ∙ (ap (λ n. is_odd (cond odd 1 0 + n)) (sym many_left) ∙ h)

  pub odd_end : (odd : Bool) → block_count ts ≤ k → is_odd (cond odd 1 0 + how_many test (left_from k ts)) ≡ is_odd (how_many test ts)
      → odd ≡ is_odd (how_many test ts)
  odd_end odd l h =
      sym (sum_odd (cond odd 1 0) 0 ∙ one_odd odd) ∙ (ap (λ n. is_odd (cond odd 1 0 + n)) (sym (ap (how_many test) (left_none k ts l))) ∙ h)
    where
      one_odd : (b : Bool) → cond (is_odd (cond b 1 0)) true false ≡ b
      one_odd true = refl
      one_odd false = refl

pub three_first : (test : Segment → Bool) (ts : List Segment) → up_to_three (0 + how_many test (left_from 0 ts)) ≡ up_to_three (how_many test ts)
three_first test ts =
    let n : 0 + how_many test (left_from 0 ts) ≡ how_many test ts = zero-add (how_many test (left_from 0 ts)) ∙ ap (how_many test) (left_all ts) in
    ap up_to_three n

pub three_few : (m n : ℕ) → m ≡ up_to_three n → m ≤ 3
three_few m n e = grind (arith, nat_tests)

pub odd_first : (test : Segment → Bool) (ts : List Segment) → is_odd (0 + how_many test (left_from 0 ts)) ≡ is_odd (how_many test ts)
odd_first test ts =
    let n : 0 + how_many test (left_from 0 ts) ≡ how_many test ts = zero-add (how_many test (left_from 0 ts)) ∙ ap (how_many test) (left_all ts) in
    ap is_odd n

-- The segments of two shapes in order, block by block; and frames that show it.
use Rattle.std.proofs.Common.{◌≡◌, inl, inr, ℕ, ◌+◌, ◌≤◌, ℤ, ◌≤ℤ◌, refl, sym, ap, ◌∙◌, Bool, true, false, List, [], ◌∷◌, ◌++◌}
use Rattle.std.specs.Prelude.{◌&&◌, ◌||◌, if◌then◌else◌}
use Rattle.std.specs.List.{list_all}
use Rattle.std.specs.Int.RustNames.{int_le}
use Rattle.std.proofs.lemmas.List.Folds.{list_all-append}
use Rattle.plane_terms.specs.Rectangle.{Rectangle, IsWithin}
use Rattle.plane_terms.specs.Segment.{Segment, box_of}
use Rattle.number_laws.proofs.Order.{le_trans_ℤ}
use Rattle.number_laws.proofs.Tests.{Decides-int_le}
use Rattle.shape.specs.Frames.{IsRound}
use Rattle.rule_loops.specs.Blocks.{left_from, block_of, block_count}
use Rattle.rule_loops.specs.Stacked.{highest, lowest, lies_left, lies_right, is_under, rises, is_before, stands, frame_stands, are_ordered}
use Rattle.rule_loops.specs.declared.stacked.Order.{Order}
use Rattle.rule_loops.specs.declared.stacked.Order.TheVariants as order
use Rattle.rule_loops.proofs.Blocked.{left_block, left_none}
use Rattle.plane_terms.proofs.Truths.{both_parts}
use Rattle.rule_loops.proofs.Stacking.{either, at_most}

-- ---- blocks
-- what is true of each of a block is asked of the others alone
pub all_more : (test : Segment → Bool) (k : ℕ) (ts : List Segment) (all : Bool) → list_all test (block_of k ts) ≡ true
    → list_all test (left_from k ts) ≡ all → list_all test (left_from (k + 1) ts) ≡ all
all_more test k ts all e h =
    let split : list_all test (left_from k ts) ≡ list_all test (block_of k ts) && list_all test (left_from (k + 1) ts) =
    ap (list_all test) (left_block k ts) ∙ list_all-append test (block_of k ts) (left_from (k + 1) ts) in
    sym (split ∙ ap (λ b. b && list_all test (left_from (k + 1) ts)) e) ∙ h

pub all_end : (test : Segment → Bool) (k : ℕ) (ts : List Segment) (all : Bool) → block_count ts ≤ k → list_all test (left_from k ts) ≡ all
    → all ≡ true
all_end test k ts all l h = sym h ∙ ap (list_all test) (left_none k ts l)

joined : (o : Order) (us xs ys : List Segment) → are_ordered o us xs ≡ true → are_ordered o us (xs ++ ys) ≡ are_ordered o us ys
joined o [] xs ys e = refl
joined o (s ∷ us) xs ys e =
    let k = both_parts (list_all (stands o s) xs) (are_ordered o us xs) e in
    let first : list_all (stands o s) (xs ++ ys) ≡ list_all (stands o s) ys = list_all-append (stands o s) xs ys
    ∙ ap (λ b. b && list_all (stands o s) ys) k.0 in
    rw (first, joined o us xs ys k.1) refl

pub ordered_more : (o : Order) (us : List Segment) (k : ℕ) (ts : List Segment) (all : Bool) → are_ordered o us (block_of k ts) ≡ true
    → are_ordered o us (left_from k ts) ≡ all → are_ordered o us (left_from (k + 1) ts) ≡ all
ordered_more o us k ts all e h =
    sym (ap (are_ordered o us) (left_block k ts) ∙ joined o us (block_of k ts) (left_from (k + 1) ts) e) ∙ h

none_ordered : (o : Order) (us : List Segment) → are_ordered o us [] ≡ true
none_ordered o [] = refl
none_ordered o (s ∷ us) = none_ordered o us

pub ordered_end : (o : Order) (us : List Segment) (k : ℕ) (ts : List Segment) (all : Bool) → block_count ts ≤ k
    → are_ordered o us (left_from k ts) ≡ all → all ≡ true
ordered_end o us k ts all l h = sym h ∙ (ap (are_ordered o us) (left_none k ts l) ∙ none_ordered o us)

-- ---- frames
first : (b c : Bool) → b ≡ true → b || c ≡ true
first b c e = rw e refl

second : (b c : Bool) → c ≡ true → b || c ≡ true
second true c e = refl
second false c e = e

between : (a b c d : ℤ) → a ≤ℤ b → int_le b c ≡ true → c ≤ℤ d → int_le a d ≡ true
between a b c d h e k = (Decides-int_le a d).1 (le_trans_ℤ a b d h (le_trans_ℤ b c d (at_most b c e) k))

-- three tests before others
one_of : (a b c d : Bool) → a ≡ true → (a || b) || (c || d) ≡ true
one_of a b c d e = first (a || b) (c || d) (first a b e)

two_of : (a b c d : Bool) → b ≡ true → (a || b) || (c || d) ≡ true
two_of a b c d e = first (a || b) (c || d) (second a b e)

three_of : (a b c d : Bool) → c ≡ true → (a || b) || (c || d) ≡ true
three_of a b c d e = second (a || b) (c || d) (first c d e)

module _ (s t : Segment) (r q : Rectangle) (u : IsWithin (box_of s) r) (v : IsWithin (box_of t) q) where
  within_under : frame_stands order.Under r q ≡ true → is_under s t ≡ true
  within_under e =
      let west = int_le s.hi.x t.lo.x in
      let east = int_le t.hi.x s.lo.x in
      let low = int_le (highest s) (lowest t) in
      let beside = lies_right t s || lies_left s t in
      elim (either (int_le r.x1 q.x0 || int_le q.x1 r.x0) (int_le r.y1 q.y0) e) [
        | inl h ↦ elim (either (int_le r.x1 q.x0) (int_le q.x1 r.x0) h) [
          | inl k ↦ one_of west east low beside (between s.hi.x r.x1 q.x0 t.lo.x u.right k v.left)
          | inr k ↦ two_of west east low beside (between t.hi.x q.x1 r.x0 s.lo.x v.right k u.left)
        ]
        | inr h ↦ three_of west east low beside (between (highest s) r.y1 q.y0 (lowest t) u.above h v.below)
      ]

  within_before : frame_stands order.Before r q ≡ true → is_before s t ≡ true
  within_before e =
      let low = int_le (highest s) (lowest t) in
      let high = int_le (highest t) (lowest s) in
      let west = int_le s.hi.x t.lo.x in
      let beside = (if rises t then lies_left t s else lies_right t s) || (if rises s then lies_right s t else lies_left s t) in
      elim (either (int_le r.y1 q.y0 || int_le q.y1 r.y0) (int_le r.x1 q.x0) e) [
        | inl h ↦ elim (either (int_le r.y1 q.y0) (int_le q.y1 r.y0) h) [
          | inl k ↦ one_of low high west beside (between (highest s) r.y1 q.y0 (lowest t) u.above k v.below)
          | inr k ↦ two_of low high west beside (between (highest t) q.y1 r.y0 (lowest s) v.above k u.below)
        ]
        | inr h ↦ three_of low high west beside (between s.hi.x r.x1 q.x0 t.lo.x u.right h v.left)
      ]

within_stands : (o : Order) (s t : Segment) (r q : Rectangle) → IsWithin (box_of s) r → IsWithin (box_of t) q → frame_stands o r q ≡ true
    → stands o s t ≡ true
within_stands order.Under s t r q u v e = within_under s t r q u v e
within_stands order.Before s t r q u v e = within_before s t r q u v e

stands_to_all : (o : Order) (s : Segment) (r q : Rectangle) (ts : List Segment) → IsWithin (box_of s) r → IsRound q ts
    → frame_stands o r q ≡ true → list_all (stands o s) ts ≡ true
stands_to_all o s r q [] u v e = refl
stands_to_all o s r q (t ∷ ts) u v e = rw (within_stands o s t r q u v.0.1 e) (stands_to_all o s r q ts u v.1 e)

pub frames_ordered : (o : Order) (r q : Rectangle) (ss ts : List Segment) → IsRound r ss → IsRound q ts → frame_stands o r q ≡ true
    → are_ordered o ss ts ≡ true
frames_ordered o r q [] ts u v e = refl
frames_ordered o r q (s ∷ ss) ts u v e = rw (stands_to_all o s r q ts u.0.1 v e) (frames_ordered o r q ss ts u.1 v e)

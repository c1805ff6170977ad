use Rattle.std.proofs.Common.{◌≡◌, ◌<◌, ◌≤◌, ◌+◌, ℕ, arith, inl, inr, subst, List, length}
use Rattle.plane_terms.specs.Segment.{Segment}
use Rattle.plane_terms.specs.ShapeFaults.{AreBad, IsPair, IsFirstPair}
use Rattle.std.proofs.lemmas.Bool.{cases_lt}
use Rattle.std.proofs.lemmas.Option.{slice_get_within}
use Rattle.plain_shapes.proofs.search.first_bad_pair.Goals as goal

first_so : (ss : List Segment) (i j : ℕ) → ((a b : ℕ) → a < i → ¬ (IsPair AreBad ss a b)) → IsPair AreBad ss i j
    → ((b : ℕ) → b < j → ¬ (IsPair AreBad ss i b)) → IsFirstPair AreBad ss i j
first_so ss i j f p g =
    record {
      pair = p;
      first = λ a b l q. elim l [ inl k ↦ f a b k q | inr k ↦ g b k.1 (subst (λ (n : ℕ). IsPair AreBad ss n b) k.0 q) ];
    }

none_more : (ss : List Segment) (i : ℕ) → ((a b : ℕ) → a < i → ¬ (IsPair AreBad ss a b)) → ((b : ℕ) → ¬ (IsPair AreBad ss i b)) → (a b : ℕ)
    → a < i + 1 → ¬ (IsPair AreBad ss a b)
none_more ss i f g a b h q = elim (cases_lt a i) [
  | inl l ↦ f a b l q
  | inr k ↦ let e : a ≡ i = omega arith in g b (subst (λ (n : ℕ). IsPair AreBad ss n b) e q)
]

none_at_all : (ss : List Segment) (i : ℕ) → ((a b : ℕ) → a < i → ¬ (IsPair AreBad ss a b)) → length ss ≤ i → (a b : ℕ)
    → ¬ (IsPair AreBad ss a b)
none_at_all ss i f l a b q = f a b (omega (arith, l, slice_get_within ss a q.s q.first)) q

pub returns-in-Some : goal.returns-in-Some
returns-in-Some c = first_so c.args.segs.now c.loop-i.i c.in-Some.j c.loop-i.invariant c.in-Some.ensures.0 c.in-Some.ensures.1

pub loop-i-preserved : goal.loop-i-preserved
loop-i-preserved c = none_more c.args.segs.now c.loop-i.i c.loop-i.invariant c.in_default.ensures

pub returns : goal.returns
returns c = none_at_all c.args.segs.now c.loop-i.i c.loop-i.invariant (omega (arith, c.loop-i-test.false))

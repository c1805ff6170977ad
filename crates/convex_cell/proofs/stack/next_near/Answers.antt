use Rattle.std.proofs.Common.{◌≡◌, arith, subst, inl, inr}
use Rattle.convex_cell.specs.Span.{AreApart}
use Rattle.std.proofs.lemmas.Bool.{cases_lt}
use Rattle.convex_cell.proofs.Steps.{same_at}
use Rattle.convex_cell.proofs.stack.next_near.Goals as goal

pub loop-i-preserved-then-rising : goal.loop-i-preserved-then-rising
loop-i-preserved-then-rising c = record {
  from = omega (arith, c.behind-i.ensures.further);
  apart = λ k d l h. elim (cases_lt k c.loop-i.i) [
    | inl n ↦ c.loop-i.invariant.apart k d l n
    | inr n ↦ c.behind-i.ensures.apart k d n h
  ];
}

pub loop-i-preserved : goal.loop-i-preserved
loop-i-preserved c = record {
  from = omega arith;
  apart = λ k d l h. elim (cases_lt k c.loop-i.i) [
    | inl n ↦ c.loop-i.invariant.apart k d l n
    | inr n ↦
        let e : k ≡ c.loop-i.i = omega arith in
        rw e (subst (AreApart c.args.own.now) (same_at c.args.bounds.now c.loop-i.i _ d (omega arith)) c.if-not-are_apart.ensures)
  ];
}

use Rattle.std.proofs.Common.{◌≡◌, ◌∙◌, ◌++◌, ◌+◌, ◌<◌, length, arith, inl, inr, ap, sym, subst}
use Rattle.std.proofs.lemmas.Bool.{cases_lt}
use Rattle.std.proofs.lemmas.Option.{get_or_from_slice_get, slice_get_within}
use Rattle.convex_cell.specs.Span.{AreApart}
use Rattle.convex_cell.proofs.Carves.{met_more}
use Rattle.convex_cell.proofs.Steps.{bounds_at, apart_at, unchanged, passed, none_after, same_at}
use Rattle.convex_cell.proofs.Searches.{round_apart}
use Rattle.convex_cell.proofs.bounded.BoundedCells.push_met.Goals as goal

pub loop-i-init : goal.loop-i-init
loop-i-init c = record {
  made = unchanged c.args.cell.now c.args.others.now c.args.self.now c.window_of-window.result.first
      (λ k d h l. apart_at c.args.own.now c.args.bounds.now c.args.cell.now c.args.others.now k d
      (round_apart c.args.own.now c.args.searched.bounds.now c.args.bounds.now k c.requires.searched.round
      (λ e. c.window_of-window.ensures.apart k e (omega (arith, c.requires.same, c.requires.searched.round.same)) (inl h)))
      c.requires.own c.requires.bounds c.requires.same l);
  needed = tt;
}

pub push_meet-requires-clause-other : goal.push_meet-requires-clause-other
push_meet-requires-clause-other c =
    let cs = c.args.others.now in
    let i = c.in-Some.i in
    let d = c.halves_at-other.result.now in
    bounds_at c.args.bounds.now cs i _ d c.requires.bounds c.requires.same (slice_get_within cs i d c.halves_at-other.ensures)
    (sym (get_or_from_slice_get cs i d d c.halves_at-other.ensures))

pub loop-i-preserved : goal.loop-i-preserved
loop-i-preserved c =
    let cell = c.args.cell.now in
    let cs = c.args.others.now in
    let before = c.args.self.now in
    let next = c.in-Some.ensures in
    let up = c.loop-i.invariant.made ∙ ap (λ y. before ++ y) (passed cell cs c.loop-i.from c.in-Some.i next.from
    (λ k d a l h. apart_at c.args.own.now c.args.bounds.now cell cs k d
    (round_apart c.args.own.now c.args.searched.bounds.now c.args.bounds.now k c.requires.searched.round (λ e. next.apart k e a l))
    c.requires.own c.requires.bounds c.requires.same h)) in
    record {
      made = c.in_ok-push_meet.ensures.made ∙ met_more cell cs before c.loop-i.self c.in-Some.i c.halves_at-other.result.now
          c.halves_at-other.ensures up;
      needed = c.in_ok-push_meet.ensures.needed;
    }

pub returns : goal.returns
returns c =
    let cell = c.args.cell.now in
    let cs = c.args.others.now in
    let window = c.window_of-window in
    c.loop-i.invariant.made ∙ ap (λ y. c.args.self.now ++ y) (none_after cell cs c.loop-i.from
    (λ k d h l. apart_at c.args.own.now c.args.bounds.now cell cs k d
    (round_apart c.args.own.now c.args.searched.bounds.now c.args.bounds.now k c.requires.searched.round
    (λ e. elim (cases_lt k window.result.last) [
      | inl m ↦ c.in_default.ensures.none k e h m
      | inr m ↦ window.ensures.apart k e (omega (arith, c.requires.same, c.requires.searched.round.same)) (inr m)
    ])) c.requires.own c.requires.bounds c.requires.same l))

pub loop-i-preserved-then-is_far : goal.loop-i-preserved-then-is_far
loop-i-preserved-then-is_far c =
    let cell = c.args.cell.now in
    let cs = c.args.others.now in
    let own = c.args.own.now in
    let bounds = c.args.bounds.now in
    let i = c.in-Some.i in
    let next = c.in-Some.ensures in
    record {
      made = c.loop-i.invariant.made ∙ ap (λ y. c.args.self.now ++ y) (passed cell cs c.loop-i.from (i + 1) (omega (arith, next.from))
          (λ k d a l h. apart_at own bounds cell cs k d (λ e. elim (cases_lt k i) [
            | inl n ↦ round_apart own c.args.searched.bounds.now bounds k c.requires.searched.round (λ f. next.apart k f a n) e
            | inr n ↦
                let same : k ≡ i = omega (arith, l, n) in
                let within : i < length bounds = omega (arith, h, same, c.requires.same) in
                rw same (subst (AreApart own) (same_at bounds i _ e within) c.if-is_far.ensures)
          ]) c.requires.own c.requires.bounds c.requires.same h));
      needed = c.loop-i.invariant.needed;
    }

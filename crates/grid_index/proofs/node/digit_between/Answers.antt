use Rattle.std.proofs.Common.{◌≡◌, ◌<◌, ◌≤◌, ◌*◌, ◌^◌, inl, inr, sym, ◌∙◌, ℕ, Option, None, Some, IfSome, IfNone, subst}
use Rattle.grid_index.specs.Middles.{spread}
use Rattle.grid_index.specs.Squares.{IsBetween, IsTaken}
use Rattle.grid_index.proofs.Squares.{apart_none, spread_none, spread_between}
use Rattle.grid_index.proofs.node.digit_between.Goals as goal

pub returns-then-apart-eq0-clause-none : goal.returns-then-apart-eq0-clause-none
returns-then-apart-eq0-clause-none c = inr (inl (
  c.if-list-gt-MOST.true,
  apart_none c.args.first.now c.args.middle.now (sym c.apart.ensures ∙ c.if-apart-eq0.true),
))

at_none : (o : Option ℕ) (P : Type 0) (n m : ℕ) → n ≡ m → (m ≡ 0 → P) → IfNone o (n ≡ 0) → IfNone o P
at_none None P n m e f h = f (sym e ∙ h)
at_none (Some d) P n m e f h = h

at_some : (o : Option ℕ) (P : ℕ → Type 0) (n m : ℕ) → n ≡ m → ((d : ℕ) → 2 ^ d ≤ m → m < 2 * 2 ^ d → P d) → IfSome o (λ d. 2 ^ d ≤ n)
    → IfSome o (λ d. n < 2 * 2 ^ d) → IfSome o (λ d. d < 32) → IfSome o (λ d. (d < 32) × P d)
at_some None P n m e f low high bound = bound
at_some (Some d) P n m e f low high bound = (bound, f d (subst (λ k. 2 ^ d ≤ k) e low) (subst (λ k. k < 2 * 2 ^ d) e high))

pub returns-clause-none : goal.returns-clause-none
returns-clause-none c = at_none c.checked_ilog2.result (IsTaken c.args.list.now c.args.first.now c.args.middle.now) c.spread.result
    (spread c.args.middle.now c.args.list.now) c.spread.ensures (λ e. inr (inr (spread_none c.args.middle.now c.args.list.now e))) c.checked_ilog2.ensures.none

pub returns-clause-some : goal.returns-clause-some
returns-clause-some c = at_some c.checked_ilog2.result (λ d. IsBetween d c.args.middle.now c.args.list.now) c.spread.result
    (spread c.args.middle.now c.args.list.now) c.spread.ensures (λ d low high. spread_between d c.args.middle.now c.args.list.now low high)
    c.checked_ilog2.ensures.power_le c.checked_ilog2.ensures.next_power_gt c.checked_ilog2.ensures.bound

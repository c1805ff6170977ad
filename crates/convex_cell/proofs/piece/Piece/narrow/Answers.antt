use Rattle.std.proofs.Common.{◌≡◌, ◌++◌, length, sym, subst, arith}
use Rattle.std.proofs.lemmas.List.{take_all}
use Rattle.plane_terms.specs.Cell.{Cell, InCell, HasPoint}
use Rattle.convex_cell.specs.Span.{IsBoundsOf}
use Rattle.convex_cell.specs.Piece.{IsMarkOf, IsNarrowed}
use Rattle.convex_cell.proofs.Steps.{never_in_cells}
use Rattle.convex_cell.proofs.Pieces.{in_both, bounds_narrowed, both_held, some_left}
use Rattle.convex_cell.proofs.piece.Piece.narrow.Goals as goal

pub returns-then-are_apart-clause-clear : goal.returns-then-are_apart-clause-clear
returns-then-are_apart-clause-clear c = λ d e p m n.
    let own : Cell = c.self.inside.halves.items in
    never_in_cells c.self.inside.bounds c.bounds_at-other_bounds.result own d c.if-are_apart.ensures c.self.invariant.bounds
    (c.bounds_at-other_bounds.ensures d e) p (subst (λ (hs : Cell). InCell hs p) (sym c.self.view_is) m) n

pub returns-then-is_within-clause-some : goal.returns-then-is_within-clause-some
returns-then-is_within-clause-some c = λ d e.
    let same : d ≡ c.halves_at-other.result.now = cc in
    let own : Cell = c.args.self.now in
    let made : IsNarrowed c.mark-mark.result own c.halves_at-other.result.now own = record {
      points = λ p. (λ m. (m, c.if-is_within.ensures.within p m), λ m. m.0);
      some = c.if-is_within.ensures.some;
      begins = take_all (length own) own (omega arith);
      mark = c.mark-mark.ensures;
    } in
    rw same made

pub returns-then-is_clear_of-clause-clear : goal.returns-then-is_clear_of-clause-clear
returns-then-is_clear_of-clause-clear c = λ d e p m n.
    let own : Cell = c.deref.result.now in
    let same : d ≡ c.halves_at-other.result.now = cc in
    let at : InCell own p = rw (c.deref.ensures.value) (subst (λ (hs : Cell). InCell hs p) (sym c.self.view_is) m) in
    c.if-is_clear_of.ensures.clear (both_held own c.halves_at-other.result.now p at (rw same at n))

pub invariant_of-self-2 : goal.invariant_of-self-2
invariant_of-self-2 c =
    let own : Cell = c.self.inside.halves.items in
    let more : Cell = c.halves_at-other.result.now in
    let round : IsBoundsOf c.bounds_at-other_bounds.result more = (c.bounds_at-other_bounds.ensures c.halves_at-other.result.now cc) in
    let both = c.common_bounds-self-inside.ensures in
    let there : HasPoint (own ++ more) = rw (← c.deref.ensures.value)
    c.if-is_clear_of.ensures.point in
    let mark : IsMarkOf c.mark-mark.result own = rw (c.self.view_is) c.mark-mark.ensures in
    record {
      bounds = bounds_narrowed c.mark-mark.result.bounds c.bounds_at-other_bounds.result c.common_bounds-self-inside.result own more
          c.push_more.new.halves.items c.in_default.ensures.points mark.piece.bounds round both.x_fits both.y_fits both.sound;
      some = some_left own more c.push_more.new.halves.items c.in_default.ensures.points there;
    }

pub returns-clause-some : goal.returns-clause-some
returns-clause-some c = λ d e.
    let own : Cell = c.self.inside.halves.items in
    let more : Cell = c.halves_at-other.result.now in
    let all : Cell = c.push_more.new.halves.items in
    let same : d ≡ c.halves_at-other.result.now = cc in
    let is : more ≡ d = sym same in
    let there : HasPoint (own ++ more) = rw (← c.deref.ensures.value)
    c.if-is_clear_of.ensures.point in
    let made : IsNarrowed c.mark-mark.result own more all = record {
      points = in_both own more all c.in_default.ensures.points;
      some = some_left own more all c.in_default.ensures.points there;
      begins = c.in_default.ensures.begins;
      mark = rw (c.self.view_is) c.mark-mark.ensures;
    } in
    rw (← c.self.view_is, ← is) made

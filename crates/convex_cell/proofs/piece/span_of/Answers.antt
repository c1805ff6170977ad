use Rattle.std.proofs.Common.{sym, subst}
use Rattle.convex_cell.specs.Span.{After, Before}
use Rattle.convex_cell.proofs.Steps.{after_at}
use Rattle.convex_cell.proofs.Pieces.{before_at, whole_code}
use Rattle.convex_cell.proofs.piece.span_of.Goals as goal

pub returns-clause-sound : goal.returns-clause-sound
returns-clause-sound c = λ z w n h k. record {
  after = subst (λ s. After s z w) (sym (whole_code c.args.from c.from.result c.requires.from c.from.ensures)) (after_at c.args.from z w n h);
  before = subst (λ s. Before s z w) (sym (whole_code c.args.to c.from-2.result c.requires.to c.from-2.ensures)) (before_at c.args.to z w n k);
}

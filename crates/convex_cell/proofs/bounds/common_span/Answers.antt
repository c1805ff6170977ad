use Rattle.std.proofs.Common.{sym, subst}
use Rattle.convex_cell.specs.Span.{IsSpan, InSpan}
use Rattle.convex_cell.proofs.Pieces.{common_code, common_is_span, within_both}
use Rattle.convex_cell.proofs.bounds.common_span.Goals as goal

pub returns-clause-fits : goal.returns-clause-fits
returns-clause-fits c =
    let r = c.requires in
    subst IsSpan (sym (common_code c.args.first c.args.second c.max.result c.min.result r.first r.second c.max.ensures.value
    c.min.ensures.value)) (common_is_span c.args.first c.args.second r.first r.second)

pub returns-clause-sound : goal.returns-clause-sound
returns-clause-sound c = λ z w i j.
    let r = c.requires in
    subst (λ s. InSpan s z w) (sym (common_code c.args.first c.args.second c.max.result c.min.result r.first r.second c.max.ensures.value
    c.min.ensures.value)) (within_both c.args.first c.args.second z w i j)

use Rattle.std.proofs.Common.{Bool, sym, ◌∙◌, arith}
use Rattle.std.specs.Prelude.{◌&&◌}
use Rattle.plane_terms.specs.Point.{Place}
use Rattle.plane_terms.specs.Shape.{ends_of}
use Rattle.topology_terms.specs.Cells.{on_both}
use Rattle.topology_terms.specs.Tests.{has_end_at}
use Rattle.rule_laws.proofs.Tests.{any_there, none_more, none_in_all}
use Rattle.rule_loops.proofs.Seen.{any_kept}
use Rattle.rule_loops.proofs.ends.has_shared_end_on.Goals as goal

pub returns-then-is_end_on : goal.returns-then-is_end_on
returns-then-is_end_on c =
    let kept : Place → Bool = has_end_at (ends_of c.args.other.now) in
    let on : Place → Bool = on_both c.args.first.now c.args.second.now in
    let es = ends_of c.args.line.now in
    sym (any_kept kept on es ∙ any_there (λ q. kept q && on q) es c.loop-i.i c.end.result c.end.ensures
    (sym c.is_end_on.ensures ∙ c.if-is_end_on.true))

pub loop-i-preserved : goal.loop-i-preserved
loop-i-preserved c =
    none_more (λ (q : Place). has_end_at (ends_of c.args.other.now) q && on_both c.args.first.now c.args.second.now q)
    (ends_of c.args.line.now) c.loop-i.i c.end.result c.end.ensures (sym c.is_end_on.ensures ∙ c.if-is_end_on.false) c.loop-i.invariant

pub returns : goal.returns
returns c =
    let kept : Place → Bool = has_end_at (ends_of c.args.other.now) in
    let on : Place → Bool = on_both c.args.first.now c.args.second.now in
    let es = ends_of c.args.line.now in
    sym (any_kept kept on es ∙ none_in_all (λ q. kept q && on q) es c.loop-i.i (omega arith) c.loop-i.invariant)

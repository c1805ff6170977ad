use Rattle.std.proofs.Common.{sym, ◌∙◌, ap, Bool}
use Rattle.std.specs.List.{filter}
use Rattle.plane_terms.specs.Point.{Place}
use Rattle.plane_terms.specs.Shape.{ends_of}
use Rattle.shape.specs.Given.{Ring}
use Rattle.topology_terms.specs.Tests.{has_end_at}
use Rattle.rule_loops.proofs.Rest.{passing_more, passing_same}
use Rattle.rule_loops.proofs.ends.shared_ends.Goals.{then-has_end_at+in_ok-push, else-has_end_at}
use Rattle.rule_loops.proofs.ends.shared_ends.Goals as goal

pub loop-i-preserved : goal.loop-i-preserved
loop-i-preserved c =
    let es = ends_of c.args.first.now in
    let test : Place → Bool = has_end_at (ends_of c.args.second.now) in
    elim c.if-has_end_at.branch [
      | then-has_end_at+in_ok-push w ↦
          passing_more test es (filter test es) c.loop-i.places.items c.if-has_end_at.places.items c.loop-i.i c.end-place.result
          c.end-place.ensures (sym c.has_end_at.ensures ∙ w.if-has_end_at.true)
          (ap (λ (v : Ring). v.items) w.places-is ∙ w.in_ok-push.ensures.items) c.loop-i.invariant
      | else-has_end_at w ↦
          passing_same test es (filter test es) c.loop-i.places.items c.if-has_end_at.places.items c.loop-i.i c.end-place.result
          c.end-place.ensures (sym c.has_end_at.ensures ∙ w.if-has_end_at.false)
          (ap (λ (v : Ring). v.items) w.places-is) c.loop-i.invariant
    ]

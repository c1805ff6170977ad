use Rattle.std.proofs.Common.{[], ◌∷◌, ◌∙◌, take, append_assoc}
use Rattle.plane_terms.specs.Shape.{ends_of}
use Rattle.validation_laws.proofs.Joining.{take_one}
use Rattle.rule_loops.proofs.ends.push_ends.Goals as goal

pub loop-i-preserved : goal.loop-i-preserved
loop-i-preserved c =
    let es = ends_of c.args.shape.now in
    let more = take_one es c.loop-i.i c.end.result c.end.ensures in
    c.in_ok-push.ensures.items ∙ (rw (c.loop-i.invariant, more)
    (append_assoc c.args.places.now.items (take c.loop-i.i es) (c.end.result ∷ [])))

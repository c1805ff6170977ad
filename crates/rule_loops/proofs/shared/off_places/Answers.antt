use Rattle.std.proofs.Common.{sym, ◌∙◌}
use Rattle.rule_loops.proofs.Tested.{outs_none}
use Rattle.rule_loops.proofs.shared.off_places.Goals as goal

pub returns-then-len-eq0 : goal.returns-then-len-eq0
returns-then-len-eq0 c =
    sym (outs_none c.args.first.now c.args.second.now c.args.places.now c.loop-place.place-index c.loop-place.left
    (sym c.len.ensures ∙ c.if-len-eq0.true)) ∙ c.loop-place.invariant

use Rattle.std.proofs.Common.{◌∙◌, sym, refl}
use Rattle.outside_rules.proofs.Placed.{past}
use Rattle.outside_rules.proofs.asking.place_of.Goals as goal

pub loop-i-init : goal.loop-i-init
loop-i-init g c = refl

pub loop-i-preserved : goal.loop-i-preserved
loop-i-preserved g c =
    past _ c.args.word.now c.args.kind c.args.objects.now c.loop-i.i c.index-objects-i.result c.loop-i-test.true c.index-objects-i.is
    c.loop-i.invariant (sym c.has_word.ensures ∙ c.if-has_word.false)

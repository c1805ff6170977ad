use Rattle.std.proofs.Common.{subst, sym}
use Rattle.error_store.specs.Cutting.{pair_of, AreBehind, BeginsPast}
use Rattle.error_store.specs.declared.pair.Pair.{Pair}
use Rattle.error_store.proofs.Cutting.{taking_ends}
use Rattle.error_store.proofs.cut.take_run.Goals as goal

pub returns-clause-behind : goal.returns-clause-behind
returns-clause-behind c =
    let n = c.in_default.ensures.popped in
    subst (AreBehind (pair_of c.args.first)) (sym n.1) (taking_ends c.args.first c.args.rest.now.items c.loop-next.run.items
    c.loop-next.rest.items c.requires c.loop-next.invariant.0
    (subst (λ (p : Pair). BeginsPast p c.loop-next.rest.items) c.pair_of-pair.ensures n.0))

use Rattle.std.proofs.Common.{◌≡◌, ◌∙◌, false, sym, rules}
use Rattle.std.proofs.lemmas.Bool.{false≢true}
use Rattle.topo_core.proofs.Standing.{take_some}
use Rattle.topo_core.proofs.places.take_place.Goals as goal

pub returns-then-not-is_this : goal.returns-then-not-is_this
returns-then-not-is_this c =
    let other : c.is_this.result ≡ false = search rules in
    take_some c.args.gone.now c.args.stays.now c.in-Some.p c.args.index.now c.take.new.self c.in-Some.is
    (λ e. false≢true (sym other ∙ c.is_this.ensures.1 e)) c.take.ensures

use Rattle.validation.proofs.Asking.{places_exact}
use Rattle.validation.proofs.dirty.places_in.Goals as goal

pub returns : goal.returns
returns c = places_exact c.args.r.now c.places_across.result c.places_up.result c.saturating_mul.result c.corner_law.ensures
    c.places_across.ensures c.places_up.ensures c.saturating_mul.ensures

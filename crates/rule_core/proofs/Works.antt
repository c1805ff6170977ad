-- The counts of works that are the same.
use Rattle.std.proofs.Common.{◌≡◌, ap}
use Rattle.rule_core.specs.Work.{Work}

pub judged_is : {v w : Work} → v ≡ w → v.judged ≡ w.judged
judged_is e = ap (λ (x : Work). x.judged) e

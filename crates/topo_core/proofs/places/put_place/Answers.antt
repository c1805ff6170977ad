use Rattle.std.proofs.lemmas.Result.{on_ok_weaker}
use Rattle.topo_core.proofs.Standing.{put_some}
use Rattle.topo_core.proofs.places.put_place.Goals as goal

pub returns-clause-ok : goal.returns-clause-ok
returns-clause-ok c = on_ok_weaker c.put.result (λ h. put_some c.args.comes.now c.in-Some.p c.args.index.now c.put.new.self
    c.in-Some.is h) c.put.ensures.ok

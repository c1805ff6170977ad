use Rattle.std.proofs.Common.{◌∙◌, ap, length}
use Rattle.topology_terms.specs.Project.{Project}
use Rattle.topo_run.proofs.Towns.{summed}
use Rattle.topo_run.proofs.town.run_town.Goals as goal

pub returns : goal.returns
returns c =
    let there = c.topology-topology.ensures in
    summed c.args.request.seed c.args.request.rows _ c.answer_all.new.world c.in_ok-told.told.refused
    (rw (c.deref.ensures.value, c.in_ok-script.ensures) at c.in_ok-told.ensures)
    (c.len.ensures ∙ ap length (c.store.ensures.features ∙ ap (λ (p : Project). p.features) there))
    (c.len-2.ensures ∙ ap length (c.errors.ensures ∙ ap (λ (p : Project). p.entries) there))
    (c.len-3.ensures ∙ ap length (c.dirt.ensures ∙ ap (λ (p : Project). p.dirt) there)) c.in_ok-sum_of_listings.ensures

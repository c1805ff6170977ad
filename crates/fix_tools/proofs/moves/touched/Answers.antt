use Rattle.std.proofs.Common.{List, map, ◌∙◌, ap}
use Rattle.topology_terms.specs.Feature.{Feature}
use Rattle.fix_terms.specs.Move.{touching}
use Rattle.fix_tools.proofs.MovePlans.{put_handles}
use Rattle.fix_tools.proofs.moves.touched.Goals as goal

pub returns-clause-put : goal.returns-clause-put
returns-clause-put g c = λ to n.
    c.in_ok-handles.ensures
    ∙ ap (λ (fs : List Feature). map {A = Feature} (λ f. f.handle) (touching c.args.from fs))
    (c.slots.ensures ∙ c.features.ensures.value ∙ c.store.ensures.features)
    ∙ put_handles c.args.from to c.args.topology.now.features n

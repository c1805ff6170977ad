use Rattle.std.proofs.Common.{rules, sym, ◌∙◌}
use borrow.Author.Tests.{tests}
use Rattle.std.specs.Prelude.{◌==◌}
use Rattle.std.proofs.lemmas.Iterator.{YieldsList-from_slice}
use Rattle.std.proofs.lemmas.Iterator.Search.{find_from_yields_List}
use Rattle.topology_terms.specs.Feature.{Feature}
use Rattle.plain_topology.proofs.OverlapFacts.{feature_at-find, matched}
use Rattle.plain_topology.proofs.overlaps.feature_of_handle.Goals as goal

pub returns : goal.returns
returns c =
    let h = c.args.handle in
    let F = c.args.features.now in
    let f = find_from_yields_List (λ (p : Feature). p.handle == h) _ _ c.find.result c.find.ensures.ran (YieldsList-from_slice F cc)
    (λ x b q k. search (rules, tests)) in
    matched _ c.find.result _ (feature_at-find F h ∙ sym f)

use Rattle.std.proofs.Common.{rules, sym, ap, ◌∙◌}
use borrow.Author.Tests.{tests}
use Rattle.std.specs.Prelude.{◌==◌}
use Rattle.std.specs.Option.{option_map}
use Rattle.std.proofs.lemmas.Iterator.{YieldsList-from_slice}
use Rattle.std.proofs.lemmas.Iterator.Search.{find_from_yields_List}
use Rattle.plain_topology.specs.Plain.{feature_of}
use Rattle.plain_topology.specs.declared.points.PlainPoint.{PlainPoint}
use Rattle.plain_topology.proofs.PointFacts.{feature_at-features}
use Rattle.plain_topology.proofs.points.point_of.Goals as goal

pub returns : goal.returns
returns c =
    let h = c.args.handle in
    let f = find_from_yields_List (λ (p : PlainPoint). p.handle == h) _ _ c.find.result c.find.ensures.ran
    (YieldsList-from_slice c.args.points.now cc) (λ x b q k. search (rules, tests)) in
    ap (option_map feature_of) (c.copied.ensures ∙ f) ∙ sym (feature_at-features c.args.points.now h)

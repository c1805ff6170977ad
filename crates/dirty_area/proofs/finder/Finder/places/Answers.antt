use Rattle.std.proofs.Common.{sym, ◌∙◌}
use Rattle.std.proofs.lemmas.Result.{IfOk-weaker}
use Rattle.dirty_area.specs.Blocks.{runs}
use Rattle.dirty_area.specs.Indexed.{IsIndexed}
use Rattle.dirty_area.proofs.Indexes.{in_some, places_indexed}
use Rattle.dirty_area.proofs.finder.Finder.places.Goals as goal

pub returns-in-Some-clause-meet : goal.returns-in-Some-clause-meet
returns-in-Some-clause-meet c =
    let xss = runs c.args.blocks.now in
    let indexed = in_some (IsIndexed xss) c.args.self.now c.in-Some.index (sym c.self.view_is ∙ c.in-Some.is) c.requires.indexed in
    IfOk-weaker c.query.result _ _ (λ made. places_indexed xss c.in-Some.index c.args.r.now made.items indexed) c.query.ensures.near

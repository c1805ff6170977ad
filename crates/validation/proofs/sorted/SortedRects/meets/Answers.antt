use Rattle.std.proofs.Common.{ap, ◌∙◌, List}
use Rattle.std.specs.List.{list_any}
use Rattle.plane_terms.specs.Rectangle.{Rectangle, rects_meet}
use Rattle.validation.proofs.Filters.{any_filtered}
use Rattle.validation.proofs.sorted.SortedRects.meets.Goals as goal

pub returns : goal.returns
returns c =
    let test = rects_meet c.args.r.now in
    c.meets_any.ensures ∙ (any_filtered test c.candidates.result.now c.deref.result.now c.candidates.ensures
    ∙ ap (λ (ss : List Rectangle). list_any test ss) (c.deref.ensures.value ∙ c.self.view_is))

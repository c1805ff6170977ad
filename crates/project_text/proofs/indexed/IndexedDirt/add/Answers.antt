use Rattle.std.proofs.Common.{◌≡◌, false, List, ◌∙◌, ap}
use Rattle.std.specs.List.{list_any}
use Rattle.plane_terms.specs.Rectangle.{Rectangle}
use Rattle.project_terms.specs.Verdicts.{are_nested}
use Rattle.project_text.proofs.Dirty.{put_last}
use Rattle.project_text.proofs.indexed.IndexedDirt.add.Goals as goal

pub add_loose-requires : goal.add_loose-requires
add_loose-requires c =
    let d = c.self.inside.dirt in
    let loose : list_any (are_nested c.args.r) d ≡ false = ap (λ (l : List Rectangle). list_any (are_nested c.args.r) l) c.self.view_is
    ∙ c.requires in
    put_last c.args.r d loose

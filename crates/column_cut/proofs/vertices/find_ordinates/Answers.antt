use Rattle.std.proofs.Common.{◌≡◌, ◌∙◌, List, ℤ, subst}
use Rattle.std.specs.Prelude.{OnOk}
use Rattle.column_cut.proofs.Ascending.{ordinates_are}
use Rattle.column_cut.proofs.vertices.find_ordinates.Goals as goal

pub returns : goal.returns
returns c = subst (λ (vs : List ℤ). OnOk c.ascending.result (c.ascending.new.found.items ≡ vs)) (c.in_ok-all_ordinates.ensures.value
    ∙ ordinates_are c.args.x.now c.args.segments.now) c.ascending.ensures

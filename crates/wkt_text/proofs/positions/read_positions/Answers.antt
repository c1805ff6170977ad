use Rattle.std.proofs.Common.{List, [], ◌∷◌, ◌++◌, ◌∙◌, ap, subst}
use Rattle.plane_terms.specs.Point.{Place}
use Rattle.wkt_laws.specs.Steps.{BeforeX, AfterPosition, Passes}
use Rattle.wkt_laws.proofs.Passing.{passes_none, passes_position, passes_then}
use Rattle.wkt_text.specs.States.{owner_of}
use Rattle.wkt_text.proofs.positions.read_positions.Goals as goal

pub returns-in_default : goal.returns-in_default
returns-in_default c = passes_none (BeforeX (owner_of c.args.owner) c.args.positions.items) c.args.text.now

pub returns : goal.returns
returns c =
    let owner = owner_of c.args.owner in
    let old = c.args.positions.items in
    let first = c.in-Some.first.0 in
    let new = c.read_more.new.positions.items in
    let text = c.args.text.now in
    let rest = c.in-Some.first.1.now in
    let left = c.in_ok-left.left.now in
    passes_then (BeforeX owner old) (AfterPosition owner (old ++ first ∷ [])) (AfterPosition owner new) text rest left
    (passes_position owner old first text rest c.in-Some.ensures)
    (subst (λ (places : List Place). Passes (AfterPosition owner places) rest (AfterPosition owner new) left) (c.in_ok-push.ensures.items
    ∙ ap (λ (places : List Place). places ++ first ∷ []) c.reserve.ensures.items) c.in_ok-left.ensures)

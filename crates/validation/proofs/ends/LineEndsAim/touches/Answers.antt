use Rattle.std.proofs.Common.{◌≡◌, ◌≢◌, ◌∙◌, sym, ap, false, arith, length}
use Rattle.std.specs.Prelude.{is_some}
use Rattle.std.specs.Option.{option_map_or}
use Rattle.plane_terms.specs.Point.{Place}
use Rattle.plane_terms.specs.Rectangle.{rect_at, is_within}
use Rattle.plane_terms.specs.Shape.{ends_of}
use Rattle.validation_laws.specs.Views.{holds_any}
use Rattle.validation.proofs.AtEnds.{open_all, open_two, or_some, or_none}
use Rattle.validation.proofs.ends.LineEndsAim.touches.Goals as goal

pub returns-then-end_count-ne2 : goal.returns-then-end_count-ne2
returns-then-end_count-ne2 c =
    let qs = ends_of c.self.inside.line.now in
    let n : length qs ≢ 2 = λ e. omega (arith, e, c.end_count.ensures, c.if-end_count-ne2.true) in
    rw (← c.self.view_is) (c.has_end_in.ensures
    ∙ ap (λ q. holds_any q c.args.r.now) (sym (open_all qs (is_some c.self.inside.first) (is_some c.self.inside.last) n)))

pub returns-then-is_in : goal.returns-then-is_in
returns-then-is_in c =
    let test = λ (q : Place). is_within (rect_at q) c.args.r.now in
    let a = option_map_or test c.self.inside.first false in
    let b = option_map_or test c.self.inside.last false in
    let two : length (ends_of c.self.inside.line.now) ≡ 2 = omega (arith, c.end_count.ensures, c.if-end_count-ne2.false) in
    rw (← c.self.view_is) (c.is_in.ensures ∙ (or_some a b (sym c.is_in.ensures ∙ c.if-is_in.true)
    ∙ open_two test (ends_of c.self.inside.line.now) c.self.inside.first c.self.inside.last two c.self.invariant.0 c.self.invariant.1))

pub returns-else-is_in : goal.returns-else-is_in
returns-else-is_in c =
    let test = λ (q : Place). is_within (rect_at q) c.args.r.now in
    let a = option_map_or test c.self.inside.first false in
    let b = option_map_or test c.self.inside.last false in
    let two : length (ends_of c.self.inside.line.now) ≡ 2 = omega (arith, c.end_count.ensures, c.if-end_count-ne2.false) in
    rw (← c.self.view_is) (c.is_in-else-is_in.ensures ∙ (or_none a b (sym c.is_in.ensures ∙ c.if-is_in.false)
    ∙ open_two test (ends_of c.self.inside.line.now) c.self.inside.first c.self.inside.last two c.self.invariant.0 c.self.invariant.1))

use Rattle.std.proofs.Common.{◌≡◌, List, ◌++◌, sym, ◌∙◌, ap, subst, append-nil}
use Rattle.std.specs.Prelude.{OnOk}
use Rattle.plane_terms.specs.Cell.{Cell}
use Rattle.rule_loops.proofs.Sharing.{all_left, none_left_off}
use Rattle.rule_loops.proofs.off_ends.OffEnds.push_point.Goals as goal

pub returns-then-has_place_on : goal.returns-then-has_place_on
returns-then-has_place_on c = sym (append-nil c.args.cells.now) ∙ ap (λ cs. c.args.cells.now ++ cs)
    (sym (none_left_off c.args.self.now c.args.first.now c.args.second.now c.segment_law.ensures c.segment_law-2.ensures c.requires
    (sym c.has_place_on.ensures ∙ c.if-has_place_on.true)))

pub returns : goal.returns
returns c =
    subst (λ (cs : List Cell). OnOk c.push_common.result (c.push_common.new.cells ≡ c.args.cells.now ++ cs))
    (sym (all_left c.args.self.now c.args.first.now c.args.second.now (sym c.has_place_on.ensures ∙ c.if-has_place_on.false)))
    c.push_common.ensures

pub push_common-requires : goal.push_common-requires
push_common-requires c = (c.requires.at, c.requires.first, c.requires.second)

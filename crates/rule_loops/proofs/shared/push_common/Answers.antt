use Rattle.std.proofs.Common.{◌≡◌, List, [], ◌∷◌, ◌++◌, sym, ◌∙◌, ap, subst}
use Rattle.std.specs.Prelude.{OnOk}
use Rattle.plane_terms.specs.Cell.{Cell, meet_of, on_segment}
use Rattle.rule_loops.proofs.Sharing.{common_one}
use Rattle.rule_loops.proofs.shared.push_common.Goals as goal

pub returns : goal.returns
returns c =
    let s = c.args.first.now in
    let t = c.args.second.now in
    let met : c.in_ok-cell.cell ≡ meet_of (on_segment s) (on_segment t) = c.in_ok-cell.ensures.value
    ∙ (ap (λ d. meet_of d c.in_ok-on_seg-2.field-0) c.in_ok-on_seg.ensures.value ∙ ap (meet_of (on_segment s)) c.in_ok-on_seg-2.ensures.value) in
    subst (λ (cs : List Cell). OnOk c.push.result (c.push.new.self ≡ c.args.cells.now ++ cs))
    (ap (λ d. d ∷ []) met ∙ sym (common_one s t c.segment_law.ensures c.segment_law-2.ensures c.requires)) c.push.ensures.ok

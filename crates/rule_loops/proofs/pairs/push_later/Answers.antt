use Rattle.std.proofs.Common.{◌≡◌, List, ◌++◌, ◌+◌, ◌-◌, drop, sym, ◌∙◌, ap, subst, arith}
use Rattle.std.proofs.lemmas.List.{drop-drop}
use Rattle.std.specs.Prelude.{flat_map}
use Rattle.plane_terms.specs.Segment.{Segment}
use Rattle.plane_terms.specs.Cell.{Cell}
use Rattle.rule_loops.specs.Ahead.{IsOff}
use Rattle.rule_loops.specs.Blocks.{left_from}
use Rattle.rule_loops.proofs.Later.{rows_after}
use Rattle.rule_loops.proofs.Clear.{near_row}
use Rattle.rule_loops.proofs.pairs.push_later.Goals as goal

pub returns : goal.returns
returns g c =
    let gives : Segment → Segment → List Cell = g.C.Crossing.crossing c.args.crossing.now in
    let s = c.args.segment.now in
    let ts = c.args.blocks.now in
    let near = c.rest_from-next.result.0.now in
    let later = left_from c.rest_from-next.result.1 ts in
    let from = c.args.from in
    let end = c.near_end-end.result in
    let there : from + (end - from) ≡ end = omega (arith, c.near_end-end.ensures.begun) in
    let clear : IsOff s (drop end ts) = rw (c.segments.ensures) at c.near_end-end.ensures.clear in
    let off = subst (IsOff s) (sym (drop-drop (end - from) from ts ∙ ap (λ n. drop n ts) there)) clear in
    let same = near_row gives (g.met.C.Crossing.apart c.args.crossing.now) s (end - from) near later (drop from ts) c.segment_law.ensures
    c.rest_from-next.ensures off in
    let row : c.push_row.new.cells ≡ c.args.cells.now ++ flat_map (gives s) near = c.in_ok-push_row.ensures
    ∙ (ap (λ us. c.args.cells.now ++ flat_map (gives s) us) c.first_of.ensures ∙ ap (λ cs. c.args.cells.now ++ cs) same) in
    rows_after (gives s) near later (drop c.args.from ts) c.args.cells.now c.push_row.new.cells c.push_blocks.new.cells c.push_blocks.result
    c.rest_from-next.ensures row c.push_blocks.ensures

pub push_blocks-requires : goal.push_blocks-requires
push_blocks-requires g c = rw (c.segments.ensures) at c.near_end-end.ensures.clear

use Rattle.std.proofs.Common.{◌≤◌, ◌∙◌, sym, subst, ap, length, take, arith, ◌+◌}
use Rattle.std.specs.List.{AllZip, filter}
use Rattle.column_cut.specs.Ranks.{IsRankOf, passes}
use Rattle.column_cut.proofs.RankLoop.{step_taken, step_left, all_taken}
use Rattle.column_cut.proofs.SortedColumn.{column_by_sort}
use Rattle.column_cut.proofs.column.find_column.Goals as goal
use Rattle.column_cut.proofs.column.find_column.Goals.{then-spans+in_ok-push, else-spans}

pub loop-segment-preserved : goal.loop-segment-preserved
loop-segment-preserved c =
    let x = c.args.left.now in
    let y = c.args.right.now in
    let ss = c.args.segments.now in
    elim c.if-spans.branch [
      | then-spans+in_ok-push w ↦ step_taken x y ss c.loop-segment.segment-index c.segment-item.result c.loop-segment-test.true
          c.segment-item.is c.loop-segment.found.items c.loop-segment.invariant (sym c.spans.ensures ∙ w.if-spans.true) _ w.rank.ensures _
          (ap (λ v. v.items) w.found-is ∙ w.in_ok-push.ensures.items)
      | else-spans w ↦ subst (λ v. AllZip (IsRankOf x y) (filter (passes x y) (take (c.loop-segment.segment-index + 1) ss)) v.items)
          (sym w.found-is) (step_left x y ss c.loop-segment.segment-index c.segment-item.result c.loop-segment-test.true c.segment-item.is
          c.loop-segment.found.items c.loop-segment.invariant (sym c.spans.ensures ∙ w.if-spans.false))
    ]

pub returns : goal.returns
returns c =
    let ss = c.args.segments.now in
    let rs = c.loop-segment.found.items in
    let h : length ss ≤ c.loop-segment.segment-index = omega (arith, c.loop-segment-test.false) in
    let z = all_taken c.args.left.now c.args.right.now ss c.loop-segment.segment-index rs h c.loop-segment.invariant in
    column_by_sort c.args.left.now c.args.right.now ss rs c.sort.new.ranks.items z c.in_ok-sort.ensures.sorted c.sort.ensures.stable

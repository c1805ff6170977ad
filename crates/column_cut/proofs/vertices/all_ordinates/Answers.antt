use Rattle.std.proofs.Common.{◌≡◌, ℤ, List, ◌+◌, ◌∷◌, ◌++◌, cond, drop, sym, ap, ◌∙◌}
use Rattle.std.proofs.lemmas.List.{drop_more}
use Rattle.column_cut.specs.Vertices.{ascending, ys_at, is_at}
use Rattle.column_cut.proofs.vertices.all_ordinates.Goals as goal

pub loop-segment-preserved : goal.loop-segment-preserved
loop-segment-preserved c =
    let x = c.args.x.now in
    let ss = c.args.segments.now in
    let i = c.loop-segment.segment-index in
    let s = c.segment-item.result in
    let rest : List ℤ = ys_at x (drop (i + 1) ss) in
    let low : List ℤ = cond (is_at s.lo.x x) (s.lo.y ∷ rest) rest in
    let next : drop i ss ≡ s ∷ drop (i + 1) ss = drop_more ss i s c.loop-segment-test.true
    ∙ ap (λ t. t ∷ drop (i + 1) ss) (sym c.segment-item.is) in
    record {
      value = (rw c.lo.ensures.value at c.in_ok-push_at-2.ensures.value rest) ∙ (rw c.hi.ensures.value at c.in_ok-push_at.ensures.value low)
          ∙ ap (λ ts. ascending (c.loop-segment.values.items ++ ys_at x ts)) (sym next) ∙ c.loop-segment.invariant.value;
      reach = c.in_ok-push_at-2.ensures.reach;
    }

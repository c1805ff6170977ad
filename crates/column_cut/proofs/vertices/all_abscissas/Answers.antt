use Rattle.std.proofs.Common.{◌≡◌, ◌+◌, ◌∷◌, ◌++◌, drop, to_z, of_z, w32, arith, sym, ap, ◌∙◌}
use Rattle.std.proofs.lemmas.Int.{ints}
use Rattle.std.proofs.lemmas.List.{drop_more}
use Rattle.column_cut.specs.Vertices.{ascending, xs_of}
use Rattle.column_cut.proofs.vertices.all_abscissas.Goals as goal

pub loop-segment-preserved : goal.loop-segment-preserved
loop-segment-preserved c =
    let ss = c.args.segments.now in
    let i = c.loop-segment.segment-index in
    let s = c.segment-item.result in
    let rest = xs_of (drop (i + 1) ss) in
    let next : drop i ss ≡ s ∷ drop (i + 1) ss = drop_more ss i s c.loop-segment-test.true
    ∙ ap (λ t. t ∷ drop (i + 1) ss) (sym c.segment-item.is) in
    let low_back : to_z w32 (of_z w32 c.x.result) ≡ c.x.result = omega (arith, ints) in
    let high_back : to_z w32 (of_z w32 c.x-in-loop-segment.result) ≡ c.x-in-loop-segment.result = omega (arith, ints) in
    let low = low_back ∙ c.x.ensures.value ∙ ap (λ p. p.x) c.lo.ensures.value in
    let high = high_back ∙ c.x-in-loop-segment.ensures.value ∙ ap (λ p. p.x) c.hi.ensures.value in
    record {
      value = (rw high at c.in_ok-push_new-2.ensures.value rest) ∙ (rw low at c.in_ok-push_new.ensures.value (s.hi.x ∷ rest))
          ∙ ap (λ ts. ascending (c.loop-segment.values.items ++ xs_of ts)) (sym next) ∙ c.loop-segment.invariant.value;
      reach = c.in_ok-push_new-2.ensures.reach;
    }

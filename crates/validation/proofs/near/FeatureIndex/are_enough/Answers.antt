use Rattle.std.proofs.Common.{arith, get_or}
use Rattle.std.proofs.lemmas.List.{get_or_default}
use Rattle.topology_terms.specs.Feature.{Feature, feature_at}
use Rattle.validation_laws.specs.Views.{counts_at}
use Rattle.validation.proofs.Nearby.{counted_more, one_counts, none_counts}
use Rattle.validation.proofs.near.FeatureIndex.are_enough.Goals as goal
use Rattle.validation.proofs.near.FeatureIndex.are_enough.Goals.{then-counts_at, else-counts_at}

pub loop-handle-preserved : goal.loop-handle-preserved
loop-handle-preserved g c =
    let test = λ (g : Feature). counts_at c.args.row.now g c.args.place in
    let F = c.args.self.now.features in
    let ns = c.args.handles.now in
    let i = c.loop-handle.handle-index in
    let a = get_or ns i 0 in
    let l = c.loop-handle-test.true in
    elim c.if-counts_at.branch [
      | then-counts_at w ↦ (
        counted_more test F ns i a c.loop-handle.count 1 c.if-counts_at.count l (get_or_default ns i 0 a l) c.loop-handle.invariant.0
            (one_counts test (feature_at F a) (c.counts_at.ensures.one w.if-counts_at.true)) w.count-is,
        omega (arith, w.count-is, c.loop-handle.invariant.1),
      )
      | else-counts_at w ↦ (
        counted_more test F ns i a c.loop-handle.count 0 c.if-counts_at.count l (get_or_default ns i 0 a l) c.loop-handle.invariant.0
            (none_counts test (feature_at F a) (c.counts_at.ensures.none w.if-counts_at.false)) (omega (arith, w.count-is)),
        omega (arith, w.count-is, c.loop-handle.invariant.1),
      )
    ]

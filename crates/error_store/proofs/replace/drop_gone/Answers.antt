use Rattle.std.proofs.Common.{◌∙◌, arith, get_or, subst, sym, take}
use Rattle.std.specs.BTreeMap.{get}
use Rattle.std.proofs.lemmas.List.{take_all, take_more}
use Rattle.error_store.specs.Exchange.{AreDropped}
use Rattle.error_store.specs.Pairs.{pair, pair_cmp}
use Rattle.error_store.proofs.Exchange.{dropped_none, dropped_past, dropped_out, none_told}
use Rattle.error_store.proofs.replace.drop_gone.Goals as goal
use Rattle.error_store.proofs.replace.drop_gone.Goals.{then-not-contains_key, else-not-contains_key}

pub loop-pair-init : goal.loop-pair-init
loop-pair-init c = record {
  dropped = dropped_none c.args.fresh.now c.args.runs.now;
  runs = c.requires.runs;
  number = c.requires.number;
  fewer = omega arith;
}

pub loop-pair-preserved : goal.loop-pair-preserved
loop-pair-preserved c =
    let ps = c.args.pairs.now in
    let i = c.loop-pair.pair-index in
    let p = get_or ps i (pair 0 0) in
    let more = take_more ps i (pair 0 0) c.loop-pair-test.true in
    let inv = c.loop-pair.invariant in
    elim c.if-not-contains_key.branch [
      | then-not-contains_key w ↦
          let out = w.take_out-left.ensures in
          let none = none_told (get pair_cmp c.args.fresh.now p) c.contains_key.result c.contains_key.ensures w.if-not-contains_key.true in
          rw (w.runs-is, w.left-is) (record {
            dropped = rw more (dropped_out (take i ps) c.args.fresh.now c.args.runs.now c.loop-pair.runs w.take_out-left.new.runs p
                inv.dropped none out.set);
            runs = out.runs;
            number = out.number;
            fewer = omega (arith, out.fewer, inv.fewer);
          })
      | else-not-contains_key w ↦ rw (w.runs-is, w.left-is) (record {
        dropped = rw more (dropped_past (take i ps) c.args.fresh.now c.args.runs.now c.loop-pair.runs p inv.dropped
            (sym c.contains_key.ensures ∙ w.if-not-contains_key.false));
        runs = inv.runs;
        number = inv.number;
        fewer = inv.fewer;
      })
    ]

pub returns-clause-dropped : goal.returns-clause-dropped
returns-clause-dropped c = subst (λ ps. AreDropped ps c.args.fresh.now c.args.runs.now c.loop-pair.runs)
    (take_all c.loop-pair.pair-index c.args.pairs.now c.loop-pair-test.false) c.loop-pair.invariant.dropped

use Rattle.std.proofs.Common.{◌≡◌, Some, None, sym, ◌∙◌, subst}
use Rattle.std.specs.BTreeMap.{get, WritesThrough}
use Rattle.std.proofs.lemmas.Result.{on_ok_weaker, on_err_weaker, IfErr-weaker}
use Rattle.error_store.specs.Pairs.{pair, pair_cmp, all_entries}
use Rattle.error_store.specs.declared.pair.Pair.{Pair}
use Rattle.error_store.proofs.MarkedRuns.{run_set, set_runs, all_alike, all_marked, all_same, same_cause, length_marked}
use Rattle.error_store.proofs.Pairs.{run_at, at_run, runs_ascend}
use Rattle.error_store.proofs.Marking.{no_error}
use Rattle.error_store.proofs.errors.mark_run.Goals as goal

pub returns-in_default-clause-refused : goal.returns-in_default-clause-refused
returns-in_default-clause-refused c =
    let k = c.args.key in
    let m = c.args.runs.now in
    let none = subst (λ (p : Pair). get pair_cmp m p ≡ None) c.pair.ensures (sym c.in_default.ensures.value) in
    no_error (all_entries m) k.rule k.subject k.other c.args.on
    (sym (at_run m c.order_law.ensures.ordered c.requires (pair k.rule k.subject) None none k.other))

pub mark_in-requires : goal.mark_in-requires
mark_in-requires c =
    let m = c.args.runs.now in
    let v = c.in-Some.run'.now in
    let there = subst (λ (p : Pair). get pair_cmp m p ≡ Some v) c.pair.ensures (sym c.in-Some.ensures.value) in
    (run_at m (pair c.args.key.rule c.args.key.subject) v c.requires there).0

pub returns : goal.returns
returns c =
    let r = c.args.key.rule in
    let a = c.args.key.subject in
    let b = c.args.key.other in
    let m = c.args.runs.now in
    let v = c.in-Some.run'.now in
    let w = c.mark_in.new.entries in
    let n = c.get_mut.follows.lender w in
    let put = c.mark_in.ensures in
    let there = subst (λ (p : Pair). get pair_cmp m p ≡ Some v) c.pair.ensures (sym c.in-Some.ensures.value) in
    let wrote = subst (λ (p : Pair). WritesThrough pair_cmp (pair_cmp p) m w n) c.pair.ensures (c.get_mut.follows.holds w) in
    let s = run_set r a m n v w c.order_law.ensures.ordered c.requires there wrote put.ascending put.same in
    record {
      set = on_ok_weaker c.mark_in.result (all_marked r a m n v w s b c.args.on) put.set;
      may = on_ok_weaker c.mark_in.result (λ h. same_cause r a m n v w s b c.args.on ∙ h) put.may;
      refused = IfErr-weaker c.mark_in.result _ _ (λ e h. same_cause r a m n v w s b c.args.on ∙ h) put.refused;
      runs = set_runs r a m n v w s;
      ascending = runs_ascend n s.ordered_new (set_runs r a m n v w s);
      same = all_alike r a m n v w s put.same;
      len = length_marked r a m n v w there wrote put.len;
      err = on_err_weaker c.mark_in.result (all_same r a m n v w s) put.err;
    }

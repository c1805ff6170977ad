use Rattle.std.proofs.Common.{◌∙◌, ◌++◌, map, subst, sym, Contains}
use Rattle.std.proofs.lemmas.List.{append-nil}
use Rattle.error_store.specs.Frames.{framed_of, frames_if, IsShared, LosesThose}
use Rattle.error_store.specs.Pairs.{all_entries}
use Rattle.error_store.proofs.Framing.{loses_runs}
use Rattle.error_store.proofs.Noted.{is_under, all_under, none_under, run_passes, run_fails}
use Rattle.error_store.proofs.rule_frames.drop_each.Goals as goal

pub loop-pair-preserved-then-pair-rule : goal.loop-pair-preserved-then-pair-rule
loop-pair-preserved-then-pair-rule c =
    let inv = c.loop-pair.invariant in
    let done = inv.gone.0 in
    let steps = c.in-Some.ensures.steps in
    let runs = rw steps at inv.runs in
    let n = c.args.rule in
    let run = c.in-Some.run'.now in
    let all = all_entries c.args.runs.now in
    record {
      runs = runs.1;
      gone = (
        done ++ map framed_of run.items,
        run_passes (is_under n) (c.in-Some.pair.now, run) c.next.new.self done (frames_if (is_under n) all)
            (all_under n c.in-Some.pair.now run.items c.if-pair-rule.true runs.0.1) (rw steps at inv.gone.1),
        loses_runs (IsShared n all) done run.items c.args.index.now c.loop-pair.index c.drop_run.new.index inv.gone.2
            (rw c.deref.ensures.value at c.drop_run.ensures),
      );
    }

pub loop-pair-preserved : goal.loop-pair-preserved
loop-pair-preserved c =
    let inv = c.loop-pair.invariant in
    let steps = c.in-Some.ensures.steps in
    let runs = rw steps at inv.runs in
    let n = c.args.rule in
    let run = c.in-Some.run'.now in
    record {
      runs = runs.1;
      gone = (
        inv.gone.0,
        run_fails (is_under n) (c.in-Some.pair.now, run) c.next.new.self inv.gone.0 (frames_if (is_under n) (all_entries c.args.runs.now))
            (none_under n c.in-Some.pair.now run.items c.if-pair-rule.false runs.0.1) (rw steps at inv.gone.1),
        inv.gone.2,
      );
    }

pub returns : goal.returns
returns c =
    let gone = c.loop-pair.invariant.gone in
    subst (λ g. LosesThose (Contains g) (IsShared c.args.rule (all_entries c.args.runs.now)) c.args.index.now c.loop-pair.index)
    (sym (append-nil gone.0) ∙ (rw c.in-None.ensures.steps.0 at gone.1)) gone.2

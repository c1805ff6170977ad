use Rattle.std.proofs.Common.{◌∙◌, sym}
use Rattle.std.proofs.lemmas.List.{append-nil}
use Rattle.error_store.specs.Frames.{frames_if}
use Rattle.error_store.specs.Pairs.{all_entries}
use Rattle.error_store.proofs.Noted.{is_under, all_under, none_under, run_passes, run_fails}
use Rattle.error_store.proofs.rule_frames.frames_under.Goals as goal

pub loop-pair-preserved-in-Continue-1 : goal.loop-pair-preserved-in-Continue-1
loop-pair-preserved-in-Continue-1 c =
    let inv = c.loop-pair.invariant in
    let steps = c.in-Some.ensures.steps in
    let runs = rw steps at inv.runs in
    let n = c.args.rule in
    let run = c.in-Some.run'.now in
    record {
      runs = runs.1;
      noted = rw (c.in_ok-note.ensures, c.deref.ensures.value) (run_passes (is_under n) (c.in-Some.pair.now, run) c.next.new.self
          c.loop-pair.frames.items (frames_if (is_under n) (all_entries c.args.runs.now))
          (all_under n c.in-Some.pair.now run.items c.if-pair-rule.true runs.0.1) (rw steps at inv.noted));
    }

pub loop-pair-preserved : goal.loop-pair-preserved
loop-pair-preserved c =
    let inv = c.loop-pair.invariant in
    let steps = c.in-Some.ensures.steps in
    let runs = rw steps at inv.runs in
    let n = c.args.rule in
    let run = c.in-Some.run'.now in
    record {
      runs = runs.1;
      noted = run_fails (is_under n) (c.in-Some.pair.now, run) c.next.new.self c.loop-pair.frames.items
          (frames_if (is_under n) (all_entries c.args.runs.now)) (none_under n c.in-Some.pair.now run.items c.if-pair-rule.false runs.0.1)
          (rw steps at inv.noted);
    }

pub returns : goal.returns
returns c = sym (append-nil c.loop-pair.frames.items) ∙ (rw c.in-None.ensures.steps.0 at c.loop-pair.invariant.noted)

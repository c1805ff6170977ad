use Rattle.std.proofs.Common.{◌∙◌, ◌++◌, ap, arith, length, map, refl, sym}
use Rattle.std.proofs.lemmas.Bool.{eqb-true}
use Rattle.std.proofs.lemmas.List.{map-append}
use Rattle.error_store.specs.Frames.{framed_of}
use Rattle.error_store.specs.Pairs.{all_entries}
use Rattle.error_store.proofs.Collected.{gathered_more, gathered_all, none_of_none, none_of_no_run}
use Rattle.error_store.proofs.GonePairs.{pairs_more, pairs_all, no_pairs_of_none, no_pairs_of_no_run}
use Rattle.error_store.proofs.Walking.{less_left}
use Rattle.error_store.proofs.gone.gone_of.Goals as goal
use Rattle.error_store.proofs.gone.gone_of.Goals.{then-is_empty-via-then-is_empty, then-is_empty-via-else-is_empty+then-is_empty-2}

pub returns-then-is_empty-clause-pairs : goal.returns-then-is_empty-clause-pairs
returns-then-is_empty-clause-pairs c = rw c.new-pairs.ensures.items (elim c.then-is_empty.branch [
  | then-is_empty-via-then-is_empty w ↦
      no_pairs_of_no_run c.args.subjects.now c.args.runs.now (c.is_empty.ensures.0 w.if-is_empty.true)
  | then-is_empty-via-else-is_empty+then-is_empty-2 w ↦ no_pairs_of_none c.args.subjects.now c.args.runs.now
      (eqb-true (length c.args.subjects.now) 0 (sym w.is_empty-else-is_empty.ensures ∙ w.if-is_empty-2.true))
])

pub returns-then-is_empty-clause-frames : goal.returns-then-is_empty-clause-frames
returns-then-is_empty-clause-frames c = c.new-frames.ensures.items ∙ ap (map framed_of) (elim c.then-is_empty.branch [
  | then-is_empty-via-then-is_empty w ↦
      none_of_no_run c.args.subjects.now c.args.runs.now (c.is_empty.ensures.0 w.if-is_empty.true)
  | then-is_empty-via-else-is_empty+then-is_empty-2 w ↦ none_of_none c.args.subjects.now (all_entries c.args.runs.now)
      (eqb-true (length c.args.subjects.now) 0 (sym w.is_empty-else-is_empty.ensures ∙ w.if-is_empty-2.true))
])

pub loop-pair-preserved : goal.loop-pair-preserved
loop-pair-preserved c =
    let inv = c.loop-pair.invariant in
    let es = inv.frames.0 in
    let run = c.in-Some.run'.now in
    let next = c.in-Some.ensures.next in
    record {
      pairs = rw c.in_ok-push.ensures.items (pairs_more c.args.subjects.now c.args.runs.now c.loop-pair.from c.loop-pair.pairs.items
          c.in-Some.pair run inv.pairs next);
      frames = (
        es ++ run.items,
        gathered_more c.args.subjects.now c.args.runs.now c.loop-pair.from es c.in-Some.pair run c.in-Some.ensures.ordered c.requires.runs
            inv.frames.1 next,
        rw (c.in_ok-note.ensures, c.deref.ensures.value, inv.frames.2) (sym (map-append framed_of es run.items)),
      );
    }

pub loop-pair-smaller : goal.loop-pair-smaller
loop-pair-smaller c =
    let n = c.in-Some.ensures.next in
    less_left c.args.runs.now c.loop-pair.from c.in-Some.pair c.in-Some.pair c.in-Some.run'.now n.on n.run (refl, omega arith)

pub returns-clause-pairs : goal.returns-clause-pairs
returns-clause-pairs c = pairs_all c.args.subjects.now c.args.runs.now c.loop-pair.from c.loop-pair.pairs.items c.loop-pair.invariant.pairs
    c.in_default.ensures.next

pub returns-clause-frames : goal.returns-clause-frames
returns-clause-frames c =
    let found = c.loop-pair.invariant.frames in
    found.2 ∙ ap (map framed_of) (gathered_all c.args.subjects.now c.args.runs.now c.loop-pair.from found.0 c.in_default.ensures.ordered
    c.requires.runs found.1 c.in_default.ensures.next)

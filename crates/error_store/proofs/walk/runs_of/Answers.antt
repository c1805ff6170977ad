use Rattle.std.proofs.Common.{◌∙◌, arith, length, refl, sym}
use Rattle.std.specs.List.{flat_map}
use Rattle.std.proofs.lemmas.Bool.{eqb-true}
use Rattle.error_store.specs.Pairs.{all_entries}
use Rattle.error_store.proofs.Collected.{gathered_more, gathered_all, none_of_none, none_of_no_run, spread_more}
use Rattle.error_store.proofs.Walking.{less_left}
use Rattle.error_store.proofs.walk.runs_of.Goals as goal
use Rattle.error_store.proofs.walk.runs_of.Goals.{then-is_empty-via-then-is_empty, then-is_empty-via-else-is_empty+then-is_empty-2}

pub returns-then-is_empty : goal.returns-then-is_empty
returns-then-is_empty c = rw c.new-found.ensures.items (elim c.then-is_empty.branch [
  | then-is_empty-via-then-is_empty w ↦
      none_of_no_run c.args.subjects.now c.args.runs.now (c.is_empty.ensures.0 w.if-is_empty.true)
  | then-is_empty-via-else-is_empty+then-is_empty-2 w ↦ none_of_none c.args.subjects.now (all_entries c.args.runs.now)
      (eqb-true (length c.args.subjects.now) 0 (sym w.is_empty-else-is_empty.ensures ∙ w.if-is_empty-2.true))
])

pub loop-pair-preserved : goal.loop-pair-preserved
loop-pair-preserved c =
    let run = c.in-Some.run'.now in
    rw (c.in_ok-push.ensures.items, spread_more c.loop-pair.found.items c.as_slice.result run.items c.as_slice.ensures.value)
    (gathered_more c.args.subjects.now c.args.runs.now c.loop-pair.from (flat_map (λ r. r.now) c.loop-pair.found.items) c.in-Some.pair run
    c.in-Some.ensures.ordered c.requires.runs c.loop-pair.invariant c.in-Some.ensures.next)

pub loop-pair-smaller : goal.loop-pair-smaller
loop-pair-smaller c =
    let n = c.in-Some.ensures.next in
    less_left c.args.runs.now c.loop-pair.from c.in-Some.pair c.in-Some.pair c.in-Some.run'.now n.on n.run (refl, omega arith)

pub returns : goal.returns
returns c = gathered_all c.args.subjects.now c.args.runs.now c.loop-pair.from (flat_map (λ r. r.now) c.loop-pair.found.items)
    c.in_default.ensures.ordered c.requires.runs c.loop-pair.invariant c.in_default.ensures.next

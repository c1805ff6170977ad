use Rattle.std.proofs.Common.{◌≡◌, arith, rules, length, vec_len}
use Rattle.std.specs.List.{filter}
use Rattle.std.specs.Map.{values_of}
use Rattle.error_store.specs.Pairs.{entries_in, all_entries}
use Rattle.error_store.proofs.Dropping.{is_other, goes_number, stays_number}
use Rattle.error_store.proofs.runs.left_without.Goals as goal

pub loop-pair-init : goal.loop-pair-init
loop-pair-init c =
    let gives = c.into_iter-pair-iterator.ensures.into_iter_gives.0 in
    rw gives (record { runs = c.requires.runs; left = omega (arith, c.requires.number) })

pub overflow_sub-left : goal.overflow_sub-left
overflow_sub-left c =
    let inv = c.loop-pair.invariant in
    let steps = c.in-Some.ensures.steps in
    let count : length c.in-Some.run'.now.items ≡ vec_len c.in-Some.run'.now = search rules in
    let goes = goes_number c.args.rule (c.in-Some.pair.now, c.in-Some.run'.now) (entries_in (values_of c.next.new.self)) c.loop-pair.left
    (length (filter (is_other c.args.rule) (all_entries c.args.runs.now))) c.if-pair-rule.true (rw steps at inv.runs).0.1 (rw steps at inv.left) in
    omega (arith, goes.0, c.len-left.ensures)

pub loop-pair-preserved-then-pair-rule : goal.loop-pair-preserved-then-pair-rule
loop-pair-preserved-then-pair-rule c =
    let inv = c.loop-pair.invariant in
    let steps = c.in-Some.ensures.steps in
    let count : length c.in-Some.run'.now.items ≡ vec_len c.in-Some.run'.now = search rules in
    let goes = goes_number c.args.rule (c.in-Some.pair.now, c.in-Some.run'.now) (entries_in (values_of c.next.new.self)) c.loop-pair.left
    (length (filter (is_other c.args.rule) (all_entries c.args.runs.now))) c.if-pair-rule.true (rw steps at inv.runs).0.1 (rw steps at inv.left) in
    record { runs = (rw steps at inv.runs).1; left = omega (arith, goes.0, goes.1, c.len-left.ensures) }

pub loop-pair-preserved : goal.loop-pair-preserved
loop-pair-preserved c =
    let inv = c.loop-pair.invariant in
    let steps = c.in-Some.ensures.steps in
    record {
      runs = (rw steps at inv.runs).1;
      left = stays_number c.args.rule (c.in-Some.pair.now, c.in-Some.run'.now) (entries_in (values_of c.next.new.self)) c.loop-pair.left
          (length (filter (is_other c.args.rule) (all_entries c.args.runs.now))) c.if-pair-rule.false (rw steps at inv.runs).0.1 (rw steps at inv.left);
    }

pub returns : goal.returns
returns c = let h = rw c.in-None.ensures.steps.0 at c.loop-pair.invariant.left in omega arith

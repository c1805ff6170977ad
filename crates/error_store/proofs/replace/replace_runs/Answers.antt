use Rattle.std.proofs.Common.{◌∙◌, subst, sym}
use Rattle.topology_terms.specs.Entry.{IsAscending}
use Rattle.error_store.specs.Pairs.{all_entries}
use Rattle.error_store.proofs.Exchange.{all_come, exchanged}
use Rattle.error_store.proofs.Remarking.{AreMarked, marked_ascend, marked_length, written_back}
use Rattle.error_store.proofs.replace.replace_runs.Goals as goal

pub cut-requires : goal.cut-requires
cut-requires c =
    let old = all_entries c.args.runs.now in
    let es = c.args.fresh.items in
    let marked = c.keep_marks.new.fresh in
    let marks = subst (λ xs. AreMarked old xs marked) c.deref_mut.ensures.value c.keep_marks.ensures in
    subst IsAscending (sym (written_back c.args.fresh.len es marked c.args.fresh.ok.0 (marked_length old es marked marks)))
    (marked_ascend old es marked marks c.requires.ascending)

pub returns-clause-replaced : goal.returns-clause-replaced
returns-clause-replaced c = λ subjects pairs new.
    let old = all_entries c.args.runs.now in
    let es = c.args.fresh.items in
    let marked = c.keep_marks.new.fresh in
    let marks = subst (λ xs. AreMarked old xs marked) c.deref_mut.ensures.value c.keep_marks.ensures in
    let cut = c.in_ok-fresh.ensures in
    exchanged subjects c.args.pairs.now c.args.runs.now c.in_ok-fresh.fresh c.make_room.new.runs c.drop_gone-left.new.runs
    c.put_each.new.runs es marked (record {
      pairs_of = pairs;
      beside = c.in_ok-make_room.ensures.beside;
      same = c.in_ok-make_room.ensures.same;
      mid_runs = c.in_ok-make_room.ensures.runs;
      fresh_runs = record { ordered = cut.ordered; runs = cut.runs };
      new_runs = c.put_each.ensures.runs;
      filled = cut.filled;
      dropped = c.drop_gone-left.ensures.dropped;
      put = c.put_each.ensures.put;
    }) (cut.list ∙ written_back c.args.fresh.len es marked c.args.fresh.ok.0 (marked_length old es marked marks)) marks new

pub returns-then-before-eq0-clause-replaced : goal.returns-then-before-eq0-clause-replaced
returns-then-before-eq0-clause-replaced c = λ subjects pairs new.
    let old = c.args.runs.now in
    let es = c.args.fresh.items in
    let marked = c.keep_marks.new.fresh in
    let marks = subst (λ xs. AreMarked (all_entries old) xs marked) c.deref_mut.ensures.value c.keep_marks.ensures in
    let cut = c.in_ok-fresh.ensures in
    exchanged subjects c.args.pairs.now old c.in_ok-fresh.fresh old old c.in_ok-fresh.fresh es marked
    (all_come subjects c.args.pairs.now old c.in_ok-fresh.fresh pairs (sym c.len-before.ensures.len ∙ c.if-before-eq0.true)
    (record { ordered = c.len-before.ensures.ordered; runs = c.requires.runs }) (record { ordered = cut.ordered; runs = cut.runs }) cut.filled)
    (cut.list ∙ written_back c.args.fresh.len es marked c.args.fresh.ok.0 (marked_length (all_entries old) es marked marks)) marks new

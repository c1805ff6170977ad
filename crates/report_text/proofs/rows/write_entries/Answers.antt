use Rattle.std.proofs.Common.{◌∙◌, ap, subst, sym}
use Rattle.std.specs.Prelude.{flat_map}
use Rattle.csv.specs.Writing.{text_written}
use Rattle.error_store.specs.Pairs.{entries_in}
use Rattle.error_store.proofs.Listed.{said_first}
use Rattle.script_terms.specs.Report.{report_line}
use Rattle.report_text.proofs.Lines.{IsWritten, none_written, more_written, all_written}
use Rattle.report_text.proofs.rows.write_entries.Goals as goal

pub loop-run-init : goal.loop-run-init
loop-run-init g c =
    let now = text_written g.W.Write.contents c.args.writer.now in
    let line = report_line c.args.rules.now in
    let same = ap entries_in (c.into_iter-run-iterator.ensures.into_iter_gives ∙ c.values-run-items.ensures.rest) ∙ c.by_pair.ensures.value in
    record {
      ready = c.requires;
      text = subst (λ es. IsWritten now now (flat_map line c.args.errors.now) (flat_map line es)) (sym same)
          (none_written now (flat_map line c.args.errors.now));
    }

pub write_run-requires : goal.write_run-requires
write_run-requires g c = c.loop-run.invariant.ready

pub loop-run-preserved : goal.loop-run-preserved
loop-run-preserved g c =
    let start = text_written g.W.Write.contents c.args.writer.now in
    let now = text_written g.W.Write.contents c.loop-run.writer in
    let line = report_line c.args.rules.now in
    let all = flat_map line c.args.errors.now in
    let run = c.in-Some.run'.now in
    let first = c.in-Some.ensures.steps in
    record {
      ready = c.in_ok-write_run.ensures.ready;
      text = more_written start now (text_written g.W.Write.contents c.write_run.new.writer) all (flat_map line run.items)
          (flat_map line (entries_in c.next.new.self))
          (subst (λ left. IsWritten start now all left) (said_first line c.loop-run.run-iterator c.next.new.self run first)
          c.loop-run.invariant.text)
          (rw c.deref.ensures.value at c.in_ok-write_run.ensures.text);
    }

pub returns : goal.returns
returns g c =
    let start = text_written g.W.Write.contents c.args.writer.now in
    let now = text_written g.W.Write.contents c.loop-run.writer in
    let line = report_line c.args.rules.now in
    let all = flat_map line c.args.errors.now in
    let none = c.in-None.ensures.steps.0 in
    all_written start now all (subst (λ runs. IsWritten start now all (flat_map line (entries_in runs))) none c.loop-run.invariant.text)

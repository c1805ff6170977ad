use Rattle.std.proofs.Common.{refl}
use Rattle.std.proofs.lemmas.Option.{slice_get_read}
use Rattle.csv.specs.Writing.{text_written}
use Rattle.script_terms.specs.Report.{report_line}
use Rattle.report_text.proofs.Lines.{plain_report, none_more, lines_more}
use Rattle.report_text.proofs.rows.write_run.Goals as goal

pub loop-entry-init : goal.loop-entry-init
loop-entry-init g c = record { ready = c.requires; text = none_more (text_written g.W.Write.contents c.args.writer.now) }

pub write_row-requires-clause-ready : goal.write_row-requires-clause-ready
write_row-requires-clause-ready g c = c.loop-entry.invariant.ready

pub write_row-requires-clause-plain : goal.write_row-requires-clause-plain
write_row-requires-clause-plain g c = rw c.in_ok-set_entry.ensures (plain_report c.args.rules.now c.entry-item.result)

pub loop-entry-preserved : goal.loop-entry-preserved
loop-entry-preserved g c = record {
  ready = c.in_ok-write_row.ensures.ready;
  text = lines_more (report_line c.args.rules.now) _ _ _ _ _ _ (slice_get_read _ _ _ _ refl c.loop-entry-test.true c.entry-item.is)
      c.loop-entry.invariant.text
      (rw c.in_ok-set_entry.ensures at c.in_ok-write_row.ensures.text);
}

use Rattle.std.specs.Prelude.{flat_map}
use Rattle.csv.specs.Writing.{text_written}
use Rattle.error_store.specs.Pairs.{entries_in}
use Rattle.script_terms.specs.Report.{report_line}
use Rattle.report_text.specs.Tables.{IsReady}
use Rattle.report_text.proofs.Lines.{IsWritten}
use Rattle.report_text.proofs.rows.write_entries.Given as goal

abbrev pub invariant-loop-run : goal.invariant-loop-run
invariant-loop-run g l = record {
  ready : IsReady l.writer;
  text : IsWritten (text_written g.W.Write.contents l.initial.writer) (text_written g.W.Write.contents l.writer)
      (flat_map (report_line l.rules) l.errors) (flat_map (report_line l.rules) (entries_in l.run-iterator));
}

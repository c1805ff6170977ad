use Rattle.std.proofs.Common.{take}
use Rattle.std.specs.Prelude.{flat_map}
use Rattle.std.specs.Io.KnownBytes.{Appends}
use Rattle.csv.specs.Writing.{text_written}
use Rattle.script_terms.specs.Report.{report_line}
use Rattle.report_text.specs.Tables.{IsReady}
use Rattle.report_text.proofs.rows.write_run.Given as goal

abbrev pub invariant-loop-entry : goal.invariant-loop-entry
invariant-loop-entry g l = record {
  ready : IsReady l.writer;
  text : Appends (text_written g.W.Write.contents l.initial.writer) (text_written g.W.Write.contents l.writer)
      (flat_map (report_line l.rules) (take l.entry-index l.entries));
}

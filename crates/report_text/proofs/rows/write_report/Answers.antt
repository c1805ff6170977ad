use Rattle.std.specs.Prelude.{flat_map}
use Rattle.csv.proofs.WriteFacts.{appends-more}
use Rattle.script_terms.specs.Report.{report_line, report_header}
use Rattle.report_text.proofs.rows.write_report.Goals as goal

pub returns : goal.returns
returns g c = appends-more _ _ _ report_header (flat_map (report_line c.args.rules.now) c.args.errors.now)
    c.in_ok-write_header.ensures.text c.in_ok-write_entries.ensures

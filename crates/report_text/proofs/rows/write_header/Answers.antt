use Rattle.report_text.proofs.Lines.{plain_header}
use Rattle.report_text.proofs.rows.write_header.Goals as goal

pub write_row-requires-clause-plain : goal.write_row-requires-clause-plain
write_row-requires-clause-plain g c = rw c.in_ok-names.ensures plain_header

pub returns-clause-text : goal.returns-clause-text
returns-clause-text g c = rw c.in_ok-names.ensures at c.in_ok-write_row.ensures.text

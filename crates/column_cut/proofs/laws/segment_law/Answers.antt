use Rattle.column_laws.proofs.SegmentLaw as law
use Rattle.column_cut.proofs.laws.segment_law.Goals as goal

pub returns : goal.returns
returns c = law.segment_law

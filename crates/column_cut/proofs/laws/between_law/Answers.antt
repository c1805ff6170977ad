use Rattle.column_laws.proofs.Between as between
use Rattle.column_cut.proofs.laws.between_law.Goals as goal

pub returns : goal.returns
returns c = between.between_places

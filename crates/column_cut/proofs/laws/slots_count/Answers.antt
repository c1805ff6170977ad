use Rattle.column_laws.proofs.Laws as laws
use Rattle.column_cut.proofs.laws.slots_count.Goals as goal

pub returns : goal.returns
returns c = laws.slots_count

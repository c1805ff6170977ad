use Rattle.column_laws.proofs.Laws as laws
use Rattle.column_cut.proofs.laws.slots_are_clear.Goals as goal

pub returns : goal.returns
returns c = laws.slots_are_clear

use Rattle.column_laws.proofs.Laws as laws
use Rattle.column_cut.proofs.laws.slots_are_enough.Goals as goal

pub returns-clause-enough : goal.returns-clause-enough
returns-clause-enough c = laws.slots_are_enough

pub returns-clause-beside : goal.returns-clause-beside
returns-clause-beside c = laws.none_counts_beside

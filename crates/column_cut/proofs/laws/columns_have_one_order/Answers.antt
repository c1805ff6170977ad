use Rattle.column_laws.proofs.Laws as laws
use Rattle.column_cut.proofs.laws.columns_have_one_order.Goals as goal

pub returns : goal.returns
returns c = laws.columns_have_one_order

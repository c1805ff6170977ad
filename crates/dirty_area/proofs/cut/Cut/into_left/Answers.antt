use Rattle.std.proofs.lemmas.Option.{IfSome_then}
use Rattle.dirty_area.proofs.cut.Cut.into_left.Goals as goal

pub of-requires-clause-indexed : goal.of-requires-clause-indexed
of-requires-clause-indexed c = IfSome_then c.put_all.new.finder c.put_all.ensures.indexed c.drop_empty.ensures.indexed

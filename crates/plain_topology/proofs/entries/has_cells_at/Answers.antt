use Rattle.plain_topology.specs.Plain.{entries_of}
use Rattle.plain_topology.proofs.EntryFacts.{in_cells}
use Rattle.plain_topology.proofs.entries.has_cells_at.Goals as goal

pub returns-in-Some : goal.returns-in-Some
returns-in-Some c = λ p i.
    in_cells (entries_of c.args.entries.now) c.args.a c.args.b p c.args.place c.in-Some.entry c.is_same_place.result c.in-Some.ensures i
    c.is_same_place.ensures

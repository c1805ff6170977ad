use Rattle.convex_cell.proofs.borrowed.BorrowedCell.is_empty.Goals as goal

pub returns-clause-empty : goal.returns-clause-empty
returns-clause-empty c = rw (← c.self.view_is) c.is_empty.ensures.empty

pub returns-clause-point : goal.returns-clause-point
returns-clause-point c = rw (← c.self.view_is) c.is_empty.ensures.point

use Rattle.std.proofs.Common.{sym}
use Rattle.project_text.proofs.Lasts.{last_entry_at}
use Rattle.project_text.proofs.draft.takes_cell.Goals as goal

pub returns-in-Some : goal.returns-in-Some
returns-in-Some c = let i = last_entry_at c.args.entries.now c.in-Some.entry.now (sym c.in-Some.ensures.value) in let t = i.takes in cc

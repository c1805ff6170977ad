use Rattle.std.proofs.Common.{sym}
use Rattle.project_text.proofs.Lasts.{wants_then, wants_else}
use Rattle.project_text.proofs.draft.wants_cell.Goals as goal

pub returns-then-not-whole : goal.returns-then-not-whole
returns-then-not-whole c =
    wants_then c.args.entries.now c.in-Some.entry.now (sym c.in-Some.ensures.value) _ c.whole.ensures (cc) _ (cc)

pub returns-else-not-whole : goal.returns-else-not-whole
returns-else-not-whole c = wants_else c.args.entries.now c.in-Some.entry.now (sym c.in-Some.ensures.value) _ c.whole.ensures (cc)

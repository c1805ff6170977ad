use Rattle.std.proofs.Common.{sym, ap, ◌∙◌}
use Rattle.error_store.specs.Keys.{Key}
use Rattle.project_terms.specs.Drafts.{is_before}
use Rattle.project_text.proofs.Lasts.{last_entry_at}
use Rattle.project_text.proofs.said.is_last_key.Goals as goal

pub returns-in-Some : goal.returns-in-Some
returns-in-Some c =
    let k = c.args.key.now in
    let i = last_entry_at c.args.entries.now c.in-Some.entry.now (sym c.in-Some.ensures.value) in
    c.is_before.ensures ∙ (ap (λ (q : Key). is_before (q.rule, q.subject, q.other) (k.rule, k.subject, k.other)) c.key.ensures
    ∙ sym (i.key (k.rule, k.subject, k.other)))

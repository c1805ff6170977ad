use Rattle.std.proofs.Common.{rules, sym, ap, ◌∙◌}
use borrow.Author.Tests.{tests}
use Rattle.std.specs.Prelude.{◌==◌, ◌&&◌}
use Rattle.std.specs.Option.{option_map}
use Rattle.std.proofs.lemmas.Iterator.{YieldsList-from_slice}
use Rattle.std.proofs.lemmas.Iterator.Search.{find_from_yields_List}
use Rattle.plain_topology.specs.Plain.{entry_of}
use Rattle.plain_topology.specs.declared.entries.PlainEntry.{PlainEntry}
use Rattle.plain_topology.proofs.EntryFacts.{entry_at-entries}
use Rattle.plain_topology.proofs.entries.entry_of_key.Goals as goal

pub returns : goal.returns
returns c =
    let a = c.args.subject in
    let b = c.args.other in
    let f = find_from_yields_List (λ (e : PlainEntry). (e.subject == a) && (e.other == b)) _ _ c.find.result c.find.ensures.ran
    (YieldsList-from_slice c.args.entries.now cc) (λ x b q k. search (rules, tests)) in
    ap (option_map entry_of) (c.copied.ensures ∙ f) ∙ sym (entry_at-entries c.args.entries.now a b)

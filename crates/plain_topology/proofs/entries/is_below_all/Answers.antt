use Rattle.std.proofs.Common.{rules}
use borrow.Author.Tests.{tests}
use Rattle.std.proofs.lemmas.Iterator.{YieldsList-from_slice, cases_from_all}
use Rattle.topology_terms.specs.Entry.{IsKeyBelow}
use Rattle.plain_topology.specs.Plain.{entry_of}
use Rattle.plain_topology.specs.declared.entries.PlainEntry.{PlainEntry}
use Rattle.plain_topology.proofs.EntryFacts.{every_entry}
use Rattle.plain_topology.proofs.entries.is_below_all.Goals as goal

pub returns : goal.returns
returns c =
    let e = entry_of c.args.e.now in
    every_entry (IsKeyBelow e) c.all.result c.args.others.now
    (cases_from_all _ _ _ (λ (f : PlainEntry). IsKeyBelow e (entry_of f))
    (λ (f : PlainEntry). ¬ (IsKeyBelow e (entry_of f))) c.all.ensures.ran (YieldsList-from_slice c.args.others.now cc)
    (λ x q k. search (rules, tests))
    (λ x q k. search (rules, tests)))

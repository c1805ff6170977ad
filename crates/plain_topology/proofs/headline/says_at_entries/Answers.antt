use Rattle.std.proofs.Common.{◌↔◌, IsTrue, true, false, rules}
use borrow.Author.Tests.{tests}
use Rattle.std.proofs.lemmas.Iterator.{YieldsList-from_slice, cases_from_all}
use Rattle.plane_terms.specs.Point.{Point, IsAt}
use Rattle.plain_topology.specs.Plain.{features_of, entries_of, row_of, SaysAt}
use Rattle.plain_topology.specs.declared.entries.PlainEntry.{PlainEntry}
use Rattle.plain_topology.proofs.HeadlineFacts.{all_is, so_at, not_at}
use Rattle.plain_topology.proofs.headline.says_at_entries.Goals as goal

pub returns : goal.returns
returns c =
    let T : PlainEntry → Point → Type 0 =
    λ e p. SaysAt c.args.dirt.now (entries_of c.args.entries.now) (row_of c.args.class)
    (features_of c.args.points.now) e.subject e.other p in
    let P : PlainEntry → Type 0 = λ e. (p : Point) → IsAt e.place p → T e p in
    all_is P c.all.result c.args.entries.now
    (cases_from_all _ _ _ P (λ e. ¬ (P e)) c.all.ensures.ran (YieldsList-from_slice c.args.entries.now cc)
    (λ x q k.
    let says : (p : Point) → IsAt x.now.place p → IsTrue true ↔ T x.now p = search (rules, tests) in
    (search (rules, tests), so_at x.now.place (T x.now) says))
    (λ x q k.
    let says : (p : Point) → IsAt x.now.place p → IsTrue false ↔ T x.now p = search (rules, tests) in
    not_at x.now.place (T x.now) says))

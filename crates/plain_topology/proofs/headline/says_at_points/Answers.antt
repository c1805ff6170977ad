use Rattle.std.proofs.Common.{rules}
use borrow.Author.Tests.{tests}
use Rattle.std.specs.List.{All}
use Rattle.std.proofs.lemmas.Iterator.{YieldsList-from_slice, cases_from_all}
use Rattle.plane_terms.specs.Point.{Point, IsAt}
use Rattle.plain_topology.specs.Plain.{features_of, entries_of, row_of, SaysAt}
use Rattle.plain_topology.specs.declared.points.PlainPoint.{PlainPoint}
use Rattle.plain_topology.proofs.HeadlineFacts.{all_is}
use Rattle.plain_topology.proofs.headline.says_at_points.Goals as goal

pub returns : goal.returns
returns c =
    let T : PlainPoint → PlainPoint → Type 0 = λ f g. (p : Point) → IsAt f.place p
    → SaysAt c.args.dirt.now (entries_of c.args.entries.now) (row_of c.args.class)
    (features_of c.args.points.now) f.handle g.handle p in
    let P : PlainPoint → Type 0 = λ f. All (T f) c.args.points.now in
    all_is P c.all.result c.args.points.now
    (cases_from_all _ _ _ P (λ f. ¬ (P f)) c.all.ensures.ran (YieldsList-from_slice c.args.points.now cc)
    (λ x q k. search (rules, tests))
    (λ x q k. search (rules, tests)))

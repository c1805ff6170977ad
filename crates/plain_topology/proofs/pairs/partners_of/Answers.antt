use Rattle.std.proofs.Common.{◌↔◌, ℕ, List, sym, subst, Vec, Global}
use Rattle.std.specs.List.{Contains}
use Rattle.plain_topology.specs.Plain.{features_of, row_of, Breaks}
use Rattle.plain_topology.proofs.PairFacts.{ok_partners, partners_nowhere}
use Rattle.plain_topology.proofs.pairs.partners_of.Goals as goal

pub returns-in-Some-clause-exact : goal.returns-in-Some-clause-exact
returns-in-Some-clause-exact c =
    ok_partners (λ (v : Vec ℕ Global). v.items) c.partners_at.result c.args.class
    (features_of c.args.points.now) c.args.a c.in-Some.subject c.in-Some.ensures c.partners_at.ensures.exact

pub returns-in-None-clause-exact : goal.returns-in-None-clause-exact
returns-in-None-clause-exact c = λ b.
    let F = features_of c.args.points.now in
    let P : List ℕ → Type 0 = λ zs. Contains zs b ↔ Breaks (row_of c.args.class) F c.args.a b in
    subst P (sym c.new.ensures.items) (partners_nowhere c.args.class F c.args.a b (sym c.in-None.ensures))

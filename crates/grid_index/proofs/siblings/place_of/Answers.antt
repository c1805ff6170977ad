use Rattle.std.proofs.Common.{◌≡◌, ◌<◌, ℕ, true, false, List, length, rules, Option, None, Some, IfNone, arith}
use Rattle.std.specs.Option.{MatchOption}
use Rattle.std.specs.List.{AllWithin, HoldsAt}
use Rattle.std.proofs.lemmas.Iterator.{IsFirst-from_position, YieldsList-from_slice}
use borrow.Author.Tests.{tests}
use Rattle.plane_terms.specs.Lists.{Every}
use Rattle.plane_terms.proofs.ListLemmas.{every_by_index}
use Rattle.grid_index.specs.Nodes.{NodeView}
use Rattle.grid_index.specs.Squares.{same_square}
use Rattle.grid_index.proofs.siblings.place_of.Goals as goal

none_passes : {A : Type 0} (o : Option ℕ) (Yes No : A → Type 0) (xs : List A)
    → MatchOption o (AllWithin No xs 0 (length xs)) (λ i. (i < length xs) × HoldsAt Yes xs i × AllWithin No xs 0 i) → IfNone o (Every No xs)
none_passes None Yes No xs h = every_by_index No xs (λ i d l. h i d (omega arith) l)
none_passes (Some i) Yes No xs h = tt

pub returns-clause-none : goal.returns-clause-none
returns-clause-none c = none_passes c.position.result (λ (n : NodeView). same_square c.args.digit c.args.middle.now n.middle ≡ true)
    (λ (n : NodeView). same_square c.args.digit c.args.middle.now n.middle ≡ false) c.args.nodes.now
    (IsFirst-from_position _ _ c.position.result (λ (n : NodeView). same_square c.args.digit c.args.middle.now n.middle ≡ true)
    (λ (n : NodeView). same_square c.args.digit c.args.middle.now n.middle ≡ false) c.position.ensures.ran
    (YieldsList-from_slice c.args.nodes.now cc) (λ x q k. search (rules, tests)) (λ x q k. search (rules, tests)))

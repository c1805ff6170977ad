use Rattle.std.proofs.Common.{◌≡◌, ap, subst, sym, arith}
use Rattle.std.specs.Option.{IfSome}
use Rattle.feature_store.specs.Stored.{Stored}
use Rattle.feature_store.specs.Keeps.{IsOfClass}
use Rattle.feature_store.specs.Slots.{filled}
use Rattle.feature_store.proofs.Filling.{filled_most, filled_ascends}
use Rattle.feature_store.proofs.Keeping.{live_own, live_each, given_own}
use Rattle.feature_store.proofs.store.Store.swap_in.Goals as goal

pub overflow_add-self : goal.overflow_add-self
overflow_add-self c =
    let live = c.self.invariant.1.live in
    let most = filled_most c.self.inside.slots.items in
    let few = c.count_law.ensures in
    let one = c.kept_count-comes.ensures.few in
    omega arith

pub invariant_of-self : goal.invariant_of-self
invariant_of-self c =
    let s = c.self.invariant.0 in
    let t = c.self.invariant.1 in
    let x = c.exchange.ensures in
    let next : c.self.inside.next ≡ c.args.self.now.next = ap (λ (v : Stored). v.next) c.self.view_is in
    let given = c.requires.given in
    let fits = subst (λ (v : Stored). IfSome c.args.kept.now (IsOfClass v.classes)) (sym c.self.view_is) c.requires.fits in
    let counted = x.live in
    let live = t.live in
    let comes = c.kept_count-comes.ensures.count in
    let goes = c.kept_count.ensures.count in (
      record {
        few = s.few;
        names = s.names;
        ascending = filled_ascends c.exchange.new.slots.items x.ascending;
        given = x.given c.self.inside.next s.given (given_own c.args.handle c.self.inside.next c.args.kept.now c.requires.from_1
            (omega arith) c.requires.own);
        kinds = x.kinds c.self.inside.classes.items s.kinds fits;
        simple = x.simple s.simple c.kept_law.ensures;
        from_1 = s.from_1;
      },
      record {
        ascending = x.ascending;
        below = x.below c.self.inside.next (omega arith) t.below;
        live = omega arith;
      },
    )

pub returns-clause-own : goal.returns-clause-own
returns-clause-own c = rw c.exchange.ensures.stood (live_own (filled c.self.inside.slots.items) c.args.handle)

pub returns-clause-fits : goal.returns-clause-fits
returns-clause-fits c = rw c.exchange.ensures.stood (live_each (IsOfClass c.self.inside.classes.items) (filled c.self.inside.slots.items)
    c.args.handle c.self.invariant.0.kinds)

use Rattle.std.proofs.Common.{◌≡◌, ◌<◌, ◌∙◌, ℕ, List, arith, ap, sym, subst, Some}
use Rattle.plane_terms.specs.declared.kind.Kind.{Kind}
use Rattle.topology_terms.specs.Feature.{Feature, feature_at}
use Rattle.sound_laws.proofs.FeatureLists.{handle_of, live_each}
use Rattle.feature_store.specs.Keeps.{IsGiven, IsOfClass}
use Rattle.fix_terms.specs.Plans.{Edit, IsPossible}
use Rattle.fix_terms.specs.Plans.{IsAfter}
use Rattle.fix_terms.specs.Explode.{HasExploded}
use Rattle.fix_tools.proofs.LineParts.{Several, several_parts, several_kind, several_may, several_plan, several_enough, too_few}
use Rattle.fix_tools.proofs.Exploding.{explode_fixes}
use Rattle.fix_tools.proofs.Possible.{explode_possible}
use Rattle.fix_tools.proofs.apart.explode.Goals as goal

live : (F G : List Feature) (h : ℕ) (f : Feature) → F ≡ G → feature_at F h ≡ Some f → feature_at G h ≡ Some f
live F G h f e l = subst (λ (H : List Feature). feature_at H h ≡ Some f) e l

pub returns-then-parts-lt-FEWEST-clause-refused : goal.returns-then-parts-lt-FEWEST-clause-refused
returns-then-parts-lt-FEWEST-clause-refused g c = (
  c.in-Some.feature.now,
  live c.store.result.now.features c.args.topology.now.features c.args.handle c.in-Some.feature.now c.store.ensures.features c.in-Some.ensures,
  too_few c.in-Some.feature.now c.shape-shape.result.now c.lines-parts.result.now c.shape-shape.ensures c.lines-parts.ensures.parts
      c.if-parts-lt-FEWEST.true,
)

pub parts_plan-requires-clause-parts : goal.parts_plan-requires-clause-parts
parts_plan-requires-clause-parts g c =
    several_parts c.args.topology.now.features c.args.handle c.in-Some.feature.now c.shape-shape.result.now c.lines-parts.result.now (record {
      live = live c.store.result.now.features c.args.topology.now.features c.args.handle c.in-Some.feature.now c.store.ensures.features c.in-Some.ensures;
      shape = c.shape-shape.ensures;
      valid = c.kind.ensures.valid;
      parts = c.lines-parts.ensures.parts;
      none = c.lines-parts.ensures.none;
      more = c.if-parts-lt-FEWEST.false;
    })

pub returns-clause-plan : goal.returns-clause-plan
returns-clause-plan g c =
    let F = c.args.topology.now.features in
    let f = c.in-Some.feature.now in
    let s = c.shape-shape.result.now in
    let ps = c.lines-parts.result.now in
    let l = live c.store.result.now.features F c.args.handle f c.store.ensures.features c.in-Some.ensures in
    let k : Several F c.args.handle f s ps = record {
      live = l;
      shape = c.shape-shape.ensures;
      valid = c.kind.ensures.valid;
      parts = c.lines-parts.ensures.parts;
      none = c.lines-parts.ensures.none;
      more = c.if-parts-lt-FEWEST.false;
    } in record {
      f = f;
      live = l;
      may = several_may F c.args.handle f s ps k;
      enough = several_enough F c.args.handle c.args.topology.now.next f s ps k (omega (arith, c.if-from-parts.false, c.from-2.ensures, c.from.ensures, c.next_handle-next.ensures.next, c.store-2.ensures.next));
      plan = several_plan F c.args.handle f s ps c.in_ok-parts_plan.field-0 k c.in_ok-parts_plan.ensures;
    }

pub returns-clause-possible : goal.returns-clause-possible
returns-clause-possible g c =
    let p = c.args.topology.now in
    let F = p.features in
    let h = c.args.handle in
    let f = c.in-Some.feature.now in
    let s = c.shape-shape.result.now in
    let ps = c.lines-parts.result.now in
    let k : Several F h f s ps = record {
      live = live c.store.result.now.features F h f c.store.ensures.features c.in-Some.ensures;
      shape = c.shape-shape.ensures;
      valid = c.kind.ensures.valid;
      parts = c.lines-parts.ensures.parts;
      none = c.lines-parts.ensures.none;
      more = c.if-parts-lt-FEWEST.false;
    } in
    let e = several_plan F h f s ps c.in_ok-parts_plan.field-0 k c.in_ok-parts_plan.ensures in
    let line = several_kind F h f s ps k in
    let kinds = live_each (IsOfClass p.classes) F h f c.topology_law.ensures.store.kinds k.live in
    let enough = several_enough F h p.next f s ps k (omega (arith, c.if-from-parts.false, c.from-2.ensures, c.from.ensures, c.next_handle-next.ensures.next, c.store-2.ensures.next)) in
    subst (λ (es : List Edit). IsPossible es p) (sym e)
    (explode_possible p f (subst (λ (m : ℕ). feature_at F m ≡ Some f) (sym (handle_of F h f k.live)) k.live) line
    (kinds ∙ ap (λ (j : Kind). Some j) line) enough)

pub returns-clause-fixed : goal.returns-clause-fixed
returns-clause-fixed g c = λ G a.
    let F = c.args.topology.now.features in
    let n = c.args.topology.now.next in
    let h = c.args.handle in
    let f = c.in-Some.feature.now in
    let s = c.shape-shape.result.now in
    let ps = c.lines-parts.result.now in
    let k : Several F h f s ps = record {
      live = live c.store.result.now.features F h f c.store.ensures.features c.in-Some.ensures;
      shape = c.shape-shape.ensures;
      valid = c.kind.ensures.valid;
      parts = c.lines-parts.ensures.parts;
      none = c.lines-parts.ensures.none;
      more = c.if-parts-lt-FEWEST.false;
    } in
    let e = several_plan F h f s ps c.in_ok-parts_plan.field-0 k c.in_ok-parts_plan.ensures in
    let own = handle_of F h f k.live in
    let below : h < n = subst (λ (m : ℕ). m < n) own (live_each (IsGiven n) F h f c.topology_law.ensures.store.given k.live).before in
    subst (λ (es : List Edit). HasExploded F n h es G) (sym e)
    (explode_fixes F n h f G k.live (several_kind F h f s ps k) own below (subst (λ (es : List Edit). IsAfter es F n G) e a))

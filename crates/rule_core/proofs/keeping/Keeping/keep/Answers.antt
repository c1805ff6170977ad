use Rattle.std.proofs.Common.{◌≡◌, ◌∙◌, ap, refl}
use Rattle.plane_terms.specs.Shape.{Shape}
use Rattle.plane_terms.specs.declared.kind.Kind.TheVariants as kind
use Rattle.shape.specs.Given.{polygons_in}
use Rattle.rule_core.specs.Kept.{halves_in, made_of, size_of}
use Rattle.rule_core.proofs.Puts.{polygon_is, is_found, is_put}
use Rattle.rule_core.proofs.Rooms.{all_left, left_of}
use Rattle.rule_core.proofs.keeping.Keeping.keep.Goals as goal

pub returns-clause-kept : goal.returns-clause-kept
returns-clause-kept c = λ e s.
    let r = c.self.inside.region in
    let f = c.args.f.now in
    let t = c.shape-2.result.now in
    let p : t.kind ≡ kind.Polygon = ap (λ (x : Shape). x.kind) c.shape-2.ensures ∙ e in
    let k : c.of-kept.result ≡ made_of r f.shape =
    c.of-kept.ensures ∙ ap (made_of r) (polygon_is f.shape t (polygons_in c.in_ok-parts.parts.items) c.shape-2.ensures e
    (c.in_ok-parts.ensures ∙ c.polygons.ensures.parts p)) in
    rw (← c.self.view_is) (is_found c.make_room-self-inside.new.cache c.handle.result f.handle c.of-kept.result (made_of r f.shape)
    c.put.new.cache.entries c.in_ok-self-inside.ensures.entries c.handle.ensures k)

pub returns-clause-recent : goal.returns-clause-recent
returns-clause-recent c = λ e s.
    let r = c.self.inside.region in
    let f = c.args.f.now in
    let t = c.shape-2.result.now in
    let p : t.kind ≡ kind.Polygon = ap (λ (x : Shape). x.kind) c.shape-2.ensures ∙ e in
    let k : c.of-kept.result ≡ made_of r f.shape =
    c.of-kept.ensures ∙ ap (made_of r) (polygon_is f.shape t (polygons_in c.in_ok-parts.parts.items) c.shape-2.ensures e
    (c.in_ok-parts.ensures ∙ c.polygons.ensures.parts p)) in
    let n : c.in-Some.halves ≡ size_of (made_of r f.shape) =
    rw (← c.self.view_is) at (c.in-Some.ensures.0 ∙ ap halves_in (c.cells.ensures ∙ (c.deref.ensures ∙ c.requires))) in
    rw (← c.self.view_is) (is_put c.make_room-self-inside.new.cache c.handle.result f.handle c.of-kept.result (made_of r f.shape)
    c.put.new.cache.entries c.self.inside.region c.self.inside.cache.entries (rw n at c.make_room-self-inside.ensures.room) (rw n at c.make_room-self-inside.ensures.most)
    (c.make_room-self-inside.ensures.cap ∙ c.self.invariant.features) c.in_ok-self-inside.ensures.entries c.handle.ensures k)

pub returns-in_err-parts-clause-fewer : goal.returns-in_err-parts-clause-fewer
returns-in_err-parts-clause-fewer c = left_of _ _ _ c.from_residual.result (all_left _ _ _ refl)

pub returns-in_err-clone-clause-fewer : goal.returns-in_err-clone-clause-fewer
returns-in_err-clone-clause-fewer c = left_of _ _ _ c.from_residual-in_err-clone.result (all_left _ _ _ refl)

pub returns-in_err-self-inside-clause-fewer : goal.returns-in_err-self-inside-clause-fewer
returns-in_err-self-inside-clause-fewer c =
    let n : c.in-Some.halves ≡ size_of (made_of c.self.inside.region c.args.f.now.shape) =
    rw (← c.self.view_is) at (c.in-Some.ensures.0 ∙ ap halves_in (c.cells.ensures ∙ (c.deref.ensures ∙ c.requires))) in
    rw (c.in_err-self-inside.ensures.err, ← c.self.view_is) (left_of _ _ _ c.from_residual-in_err-self-inside.result (rw n at c.make_room-self-inside.ensures.most))

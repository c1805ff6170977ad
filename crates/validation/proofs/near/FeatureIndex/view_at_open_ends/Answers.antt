use Rattle.std.proofs.lemmas.Result.{IfOk-weaker}
use Rattle.topology_terms.specs.Together.{ends}
use Rattle.validation_laws.specs.Parts.{live_of}
use Rattle.validation_laws.specs.Views.{holds_any, open_of}
use Rattle.validation.specs.Ends.{AreAtEnds}
use Rattle.validation.proofs.AtEnds.{ends_among, put_together}
use Rattle.validation.proofs.near.FeatureIndex.view_at_open_ends.Goals as goal

pub returns-clause-view : goal.returns-clause-view
returns-clause-view g c =
    let F = c.self.inside.features.now in
    let f = c.args.f.now in
    let known = c.args.known.now.items in
    let ns = c.once_each.new.found.items in
    let ps = c.self.inside.index.now in
    let y = put_together (holds_any (open_of (ends f) c.args.first c.args.last)) ps known c.add_about.new.found.items ns f.handle
    (rw (c.with_open-aim.ensures.ends, c.shape.ensures) at c.in_ok-add_about.ensures.met)
    (rw (c.in_ok-push.ensures.items, c.handle.ensures) at c.in_ok-once_each.ensures.same) in
    rw (← c.self.view_is) (IfOk-weaker c.view_among.result _
    (λ v. AreAtEnds F f (live_of F known) (open_of (ends f) c.args.first c.args.last) v)
    (λ v h. ends_among F v f (rw (← c.self.view_is) at c.requires.ascending) (rw (← c.self.view_is) at c.requires.live) c.requires.ends ns
    known ps c.args.first c.args.last c.self.invariant c.in_ok-once_each.ensures.ascending c.requires.known
    y.0 y.1 y.2 (rw (c.deref.ensures.value, c.of.ensures.ends, c.shape-2.ensures) at h)) c.view_among.ensures)

use Rattle.std.proofs.Common.{◌∙◌, sym, inr}
use Rattle.std.proofs.lemmas.Result.{IfOk-weaker}
use Rattle.topology_terms.specs.Together.{ends}
use Rattle.validation_laws.specs.Parts.{live_of}
use Rattle.validation_laws.proofs.Handles.{rising}
use Rattle.validation_laws.proofs.Counting.{live_ascends}
use Rattle.validation.specs.Ends.{lacks_at, IsShownFor}
use Rattle.validation.specs.Parted.{rules_of}
use Rattle.validation.proofs.Enough.{any_rule, beside_shown, two_of}
use Rattle.validation.proofs.shown.view_beside.Goals as goal

pub returns-clause-view : goal.returns-clause-view
returns-clause-view g c =
    let F = c.args.features.now.features in
    let f = c.args.f.now in
    let ps = c.args.parts.now in
    let known = c.args.known.now.items in
    let K = live_of F known in
    let p = c.end.result in
    let q = c.end-2.result in
    let two = two_of (ends f) p q c.requires.two (rw c.shape.ensures at c.end.ensures) (rw c.shape-2.ensures at c.end-2.ensures) in
    IfOk-weaker c.view_at_open_ends.result _ (λ v. IsShownFor (rules_of ps) F f v) (λ v h. inr (
      c.requires.at_ends,
      beside_shown (rules_of ps) F v
          K f c.is_open-first.result c.is_open-last.result p q two (live_ascends F known (rising known c.requires.known))
          ((rw c.deref.ensures.value at c.is_open-first.ensures) ∙ sym (any_rule (lacks_at f K p) ps))
          ((rw c.deref-2.ensures.value at c.is_open-last.ensures) ∙ sym (any_rule (lacks_at f K q) ps)) h,
    ))
    c.view_at_open_ends.ensures.view

use Rattle.std.proofs.Common.{◌∙◌, ap, ◌++◌, [], ◌∷◌, append_assoc}
use Rattle.validation_laws.specs.Parts.{IsNewEntry}
use Rattle.validation_laws.proofs.Joining.{paired_more}
use Rattle.validation.proofs.judge.add_findings.Goals as goal

pub loop-x-preserved : goal.loop-x-preserved
loop-x-preserved c =
    let h = c.loop-x.invariant in
    let e = c.in_ok-entry.entry in (
      h.0 ++ e ∷ [],
      c.in_ok-push.ensures.items ∙ (ap (λ t. t ++ e ∷ []) h.1 ∙ append_assoc c.args.out.now.items h.0 (e ∷ [])),
      paired_more
          (IsNewEntry c.args.rule c.args.f.now.handle c.args.f.now) c.loop-x.yielded h.0 c.in-Some.x e h.2 c.in_ok-entry.ensures,
    )

use Rattle.std.proofs.Common.{◌≡◌, ◌-◌, Some, sym, ap, subst, ◌∙◌, to_z, of_z, w64, arith}
use Rattle.std.proofs.lemmas.Int.{ints}
use Rattle.project_terms.specs.Lines.{natural}
use Rattle.project_terms.specs.Verdicts.{feature_of, feature_numbered}
use Rattle.project_terms.specs.Drafts.{Draft}
use Rattle.project_terms.specs.Texts.{IsReading}
use Rattle.project_text.specs.Reading.{left, feature_said, reading_of, Says}
use Rattle.project_text.proofs.FeatureLines.{feature_read}
use Rattle.project_text.proofs.draft.Draft.read_feature.Goals as goal

pub returns-in-Written : goal.returns-in-Written
returns-in-Written c =
    let d = c.args.self.now in
    let f = feature_said c.in-Some.form in
    let x : to_z w64 (of_z w64 c.in-Some.form.handle) ≡ c.in-Some.form.handle = omega (arith, ints) in
    feature_read c.say_feature.result d c.say_feature.new.self (left c.args.rest.now) f c.in-Written.shape
    (sym c.is_open.ensures ∙ c.if-not-is_open.false)
    (subst (λ t. feature_of t (left c.args.rest.now) ≡ Some f) (ap (λ (x : Draft). x.typed) c.self.view_is) c.in-Some.ensures)
    (subst (λ x. IsReading f.wkt (reading_of x)) c.in-Written.is c.in_ok-read_shape.ensures)
    (subst (λ z. Says c.say_feature.result (feature_numbered d f.own c.in-Written.shape
    (natural 1 (d.project.next - 1) z)) c.say_feature.new.self) x c.say_feature.ensures)

use Rattle.std.proofs.Common.{sym, ◌∙◌}
use Rattle.project_terms.specs.Texts.{IsVerdict}
use Rattle.project_text.specs.Reading.{left, IsFeatureVerdict}
use Rattle.project_text.proofs.FeatureLines.{gives_map, feature_line}
use Rattle.project_text.proofs.draft.Draft.read_line.Goals as goal

pub returns-then-is_word-5 : goal.returns-then-is_word-5
returns-then-is_word-5 c =
    let d = c.args.self.now in
    let w = c.split_field.result.0.now in
    let fs = left c.split_field.result.1.now in
    gives_map c.read_feature.result (IsFeatureVerdict d fs) (IsVerdict d c.args.line.now) c.read_feature.new.self
    (λ v h. feature_line d c.args.line.now w fs v c.split_field.ensures.parts (sym c.is_word-5.ensures ∙ c.if-is_word-5.true) h)
    c.read_feature.ensures

-- The lines of listings are those of a project's text.
use Rattle.std.proofs.Common.{◌≡◌, List, [], ◌++◌, sym, ap, ◌∙◌, append-nil}
use Rattle.std.specs.Prelude.{flat_map, length}
use Rattle.topology_terms.specs.Entry.{Entry}
use Rattle.topology_terms.specs.Project.{Project}
use Rattle.project_terms.specs.Written as text
use Rattle.project_terms.specs.Written.{line_text}
use Rattle.project_text.specs.Pushed.{dirty_text, error_text, error_texts, feature_text, rule_text}
use Rattle.project_text.proofs.Sections.{lines_same, dirty_same, error_same, errors_same, feature_same, rule_same}
use Rattle.script_terms.specs.Reply.{CellList, DirtyList, ErrorList, FeatureList, RuleList, reply_text, total_line}

entries_same : (es : List Entry) → flat_map line_text (flat_map text.error_lines es) ≡ flat_map error_texts es
entries_same es =
    ap (λ ls. flat_map line_text ls) (sym (append-nil (flat_map text.error_lines es)))
    ∙ (errors_same es [] ∙ append-nil (flat_map error_texts es))

pub dirt_listed : (p : Project) → reply_text (DirtyList p) ≡ flat_map dirty_text p.dirt ++ total_line (length p.dirt)
dirt_listed p = ap (λ t. t ++ total_line (length p.dirt)) (lines_same text.dirty_line dirty_text dirty_same p.dirt)

pub errors_listed : (p : Project) → reply_text (ErrorList p) ≡ flat_map error_text p.entries ++ total_line (length p.entries)
errors_listed p = ap (λ t. t ++ total_line (length p.entries)) (lines_same text.error_line error_text error_same p.entries)

pub cells_listed : (p : Project) → reply_text (CellList p) ≡ flat_map error_texts p.entries ++ total_line (length p.entries)
cells_listed p = ap (λ t. t ++ total_line (length p.entries)) (entries_same p.entries)

pub features_listed : (p : Project) → reply_text (FeatureList p) ≡
    flat_map (feature_text p.classes) p.features ++ total_line (length p.features)
features_listed p = ap (λ t. t ++ total_line (length p.features)) (lines_same (text.feature_line p.classes) (feature_text p.classes)
    (feature_same p.classes) p.features)

pub rules_listed : (p : Project) → reply_text (RuleList p) ≡ flat_map (rule_text p.classes) p.rules ++ total_line (length p.rules)
rules_listed p = ap (λ t. t ++ total_line (length p.rules)) (lines_same (text.rule_line p.classes) (rule_text p.classes)
    (rule_same p.classes) p.rules)

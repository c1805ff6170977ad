use Rattle.std.proofs.Common.{◌∙◌, ◌++◌, ap, sym, List}
use Rattle.std.specs.Prelude.{flat_map, length}
use Rattle.plane_terms.specs.Rectangle.{Rectangle}
use Rattle.topology_terms.specs.Entry.{Entry}
use Rattle.topology_terms.specs.Feature.{Class, Feature}
use Rattle.topology_terms.specs.Project.{InForce}
use Rattle.project_text.specs.Pushed.{dirty_text, error_text, error_texts, feature_text, rule_text}
use Rattle.corner_terms.specs.declared.cell_corner.CellCorner.{CellCorner}
use Rattle.script_terms.specs.Reply.{reply_text, corner_line, total_line}
use Rattle.text_out.proofs.Pushing.{as_text}
use Rattle.reply_text.specs.Replies.{said_of}
use Rattle.reply_text.specs.declared.reply.Reply.{Reply}
use Rattle.reply_text.proofs.Same.{dirt_listed, errors_listed, cells_listed, features_listed, rules_listed}
use Rattle.reply_text.proofs.reply.push_reply.Goals as goal

pub returns-in-DirtyList : goal.returns-in-DirtyList
returns-in-DirtyList g c =
    let p = c.args.topology.now in
    as_text c.push_dirty_list.result _ _ _ _ (ap (λ (r : Reply). reply_text (said_of p r)) c.in-DirtyList.is ∙ (dirt_listed p
    ∙ ap (λ (d : List Rectangle). flat_map dirty_text d ++ total_line (length d)) (sym c.dirt.ensures))) c.push_dirty_list.ensures

pub returns-in-ErrorList : goal.returns-in-ErrorList
returns-in-ErrorList g c =
    let p = c.args.topology.now in
    as_text c.push_error_list.result _ _ _ _ (ap (λ (r : Reply). reply_text (said_of p r)) c.in-ErrorList.is ∙ (errors_listed p
    ∙ ap (λ (es : List Entry). flat_map error_text es ++ total_line (length es)) (sym c.errors.ensures))) c.push_error_list.ensures

pub returns-in-CellList : goal.returns-in-CellList
returns-in-CellList g c =
    let p = c.args.topology.now in
    as_text c.push_cell_list.result _ _ _ _ (ap (λ (r : Reply). reply_text (said_of p r)) c.in-CellList.is ∙ (cells_listed p
    ∙ ap (λ (es : List Entry). flat_map error_texts es ++ total_line (length es)) (sym c.errors-in-CellList.ensures)))
    c.push_cell_list.ensures

pub returns-in-FeatureList : goal.returns-in-FeatureList
returns-in-FeatureList g c =
    let p = c.args.topology.now in
    as_text c.push_feature_list.result _ _ _ _ (ap (λ (r : Reply). reply_text (said_of p r)) c.in-FeatureList.is ∙ (features_listed p
    ∙ (ap (λ (cs : List Class). flat_map (feature_text cs) p.features ++ total_line (length p.features)) (sym c.store.ensures.classes)
    ∙ ap (λ (fs : List Feature). flat_map (feature_text c.store.result.now.classes) fs ++ total_line (length fs))
    (sym c.store.ensures.features)))) c.push_feature_list.ensures

pub returns-in-RuleList : goal.returns-in-RuleList
returns-in-RuleList g c =
    let p = c.args.topology.now in
    as_text c.push_rule_list.result _ _ _ _ (ap (λ (r : Reply). reply_text (said_of p r)) c.in-RuleList.is ∙ (rules_listed p
    ∙ (ap (λ (cs : List Class). flat_map (rule_text cs) p.rules ++ total_line (length p.rules)) (sym c.store-in-RuleList.ensures.classes)
    ∙ ap (λ (rs : List InForce). flat_map (rule_text c.store-in-RuleList.result.now.classes) rs ++ total_line (length rs))
    (sym c.rules.ensures)))) c.push_rule_list.ensures

pub returns-in-CornerList : goal.returns-in-CornerList
returns-in-CornerList g c =
    let p = c.args.topology.now in
    as_text c.push_corner_list.result _ _ _ _ (ap (λ (r : Reply). reply_text (said_of p r)) c.in-CornerList.is
    ∙ ap (λ (ks : List CellCorner). flat_map corner_line ks ++ total_line (length ks)) (sym c.deref.ensures.value)) c.push_corner_list.ensures

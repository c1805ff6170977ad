use Rattle.project_text.proofs.Sections.{all_said}
use Rattle.project_text.proofs.write.push_project.Goals as goal

pub returns : goal.returns
returns c =
    all_said _ _ _ _ _ _ _ _ _ _ _ _ _ _ _ _ c.next_handle.ensures.next c.in_ok-push_head.ensures c.in_ok-push_classes.ensures
    c.in_ok-push_rules.ensures
    c.in_ok-push_features.ensures c.in_ok-push_blocks.ensures c.in_ok-push_errors.ensures c.in_ok-push_text.ensures

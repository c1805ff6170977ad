use Rattle.project_text.proofs.Listings.{class_more}
use Rattle.project_text.proofs.write.push_classes.Goals as goal

pub loop-before-preserved : goal.loop-before-preserved
loop-before-preserved c = class_more c.args.store.now.classes c.loop-before.before _ _ _ c.loop-before.invariant
    c.in_ok-push_class_line.ensures

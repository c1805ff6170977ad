-- An undo restores one handle, a discard those of the session's done steps.
use Rattle.std.proofs.Common.{ℕ, ◌≡◌, Bool, true, false, List, [], ◌∷◌, refl, sym, ◌∙◌, ap, eqb}
use Rattle.std.specs.Prelude.{if◌then◌else◌}
use Rattle.topology_terms.specs.Feature.{feature_at}
use Rattle.topology_terms.specs.Project.{Project}
use Rattle.topology_terms.specs.Session.{EditStep}
use Rattle.session_terms.specs.Chains.{IsChained}
use Rattle.session_terms.proofs.Chains.{last_left}
use Rattle.script_terms.specs.State.{Desk}
use Rattle.script_terms.specs.Answer.{IsUndone, IsDiscarded, AreTakenBack}
use Rattle.script_terms.specs.Keeping.{IsKeeping}
use Rattle.script_terms.specs.Restored.{first_before, IsRestored, IsAllRestored}
use Rattle.script_terms.proofs.Keeping.{named_has}
use Rattle.std.proofs.lemmas.Bool.{eqb-true}
use Rattle.session_terms.proofs.Relation.{differ}

pub undo_restores : (editor : List ℕ) (old new : Desk) → IsKeeping old → IsUndone editor old new → IsRestored editor old new
undo_restores editor old new k d = record {
  session = d.1;
  there = d.4.session.there;
  earlier = d.2.done;
  step = d.0;
  last = d.3.done;
  left = last_left (feature_at old.project.features) d.1 d.2.done d.0 d.3.done
      (named_has (IsChained (feature_at old.project.features)) old.sessions editor d.1 d.4.session.there k.chained);
  back = d.4.project.edit.features.here;
  others = d.4.project.edit.features.others;
}

pub taken_at : (ts : List EditStep) (old new : Project) (k : ℕ) → AreTakenBack ts old new
    → feature_at new.features k ≡ first_before ts (feature_at old.features) k
taken_at [] old new k t = ap (λ (p : Project). feature_at p.features k) t
taken_at (x ∷ ts) old new k t = by (eqb x.handle k) refl (taken_at ts old t.0 k t.1)
  where
    by : (b : Bool) → eqb x.handle k ≡ b → feature_at t.0.features k ≡ first_before ts (feature_at old.features) k
        → feature_at new.features k ≡ (if b then x.before else first_before ts (feature_at old.features) k)
    by true e r = ap (feature_at new.features) (sym (eqb-true x.handle k e)) ∙ t.2.edit.features.here
    by false e r = t.2.edit.features.others k (differ x.handle k e) ∙ r

pub discard_restores : (editor : List ℕ) (old new : Desk) → IsDiscarded editor old new → IsAllRestored editor old new
discard_restores editor old new d = record {
  session = d.session;
  there = d.there;
  back =
      λ k. taken_at d.session.done old.project new.project k d.taken_back;
}

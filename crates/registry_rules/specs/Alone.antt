-- Rules from outside that look at the subject alone.
--
-- of_subject test o    there is a subject, and it passes the test
-- alone w k test       the rule of the word w, which features of the kind k break that pass the test
use Rattle.std.proofs.Common.{ap, sym, ◌∙◌}
use Rattle.std.specs.Prelude.{ℕ, Bool, false, List, Option, None, Some}
use Rattle.plane_terms.specs.declared.kind.Kind.{Kind}
use Rattle.topology_terms.specs.Feature.{Feature, feature_at}
use Rattle.outside_rule_terms.specs.Outside.{Outside}

abbrev pub of_subject : (Feature → Bool) → Option Feature → Bool
of_subject test None = false
of_subject test (Some f) = test f

abbrev pub alone : List ℕ → Kind → (Feature → Bool) → Outside
alone w k test = record {
  word = w;
  kind = k;
  breaks = λ F a. of_subject test (feature_at F a);
  local = λ F G a f u v e k agree. ap (of_subject test) (e ∙ sym k);
}

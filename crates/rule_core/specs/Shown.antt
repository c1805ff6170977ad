-- What a rule is shown when it judges a subject.
--
-- IsShown row V a      V ascends by handle, has the subject a, which the row judges, and holds no feature whose envelope does not meet the
--                      subject's
use Rattle.std.specs.Prelude.{◌≡◌, ℕ, true, List, Some}
use Rattle.plane_terms.specs.Rectangle.{RectsMeet}
use Rattle.topology_terms.specs.Feature.{Feature, feature_at, env, IsAscending}
use Rattle.topology_terms.specs.Broken.{Row, judged}

pub record IsShown (row : Row) (V : List Feature) (a : ℕ) : Type 0 where
  pub subject : Feature
  pub live : feature_at V a ≡ Some subject
  pub judged : judged row subject ≡ true
  pub near : (h : ℕ) (g : Feature) → feature_at V h ≡ Some g → RectsMeet (env subject) (env g)
  pub ascending : IsAscending V

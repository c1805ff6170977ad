-- What is shown of the features near a line, where it is enough to show what is at its ends.
--
-- looks_beyond f q      the test whether the rule judges the feature, and by more than what is at its ends
-- shows_at_ends rules f the test whether the feature has ends, and none of the rules looks beyond them
-- lacks_at f hs q r     the test whether the rule judges the feature, and has not enough of the features hs at the place
-- AreAtEnds F f K os V  V has, ascending by handle, f, of the features F all whose envelope holds one of the places os, and of the known
--                       ones K those whose envelope holds an end of f; and no feature of F besides but such whose envelope meets that of f
-- AreShownAtEnds rules F f V    V has, ascending by handle, what is to be shown at each end of f to each of the rules that judge it, and f
--                       itself, and no feature of F besides but such whose envelope meets that of f
-- IsShownFor rules F f V    V is a view of F for f, or, where these rules look at its ends alone, what is to be shown to them there
use Rattle.std.specs.Prelude.{◌≡◌, ◌⊎◌, Bool, true, ◌&&◌, not, nat_lt, ℕ, List, length, Some}
use Rattle.std.specs.List.{list_any}
use Rattle.plane_terms.specs.Lists.{Every}
use Rattle.plane_terms.specs.Point.{Place, point_at}
use Rattle.plane_terms.specs.Rectangle.{RectHolds, RectsMeet}
use Rattle.topology_terms.specs.Feature.{Feature, feature_at, env, IsAscending}
use Rattle.topology_terms.specs.Together.{ends}
use Rattle.topology_terms.specs.Broken.{judged}
use Rattle.topology_terms.specs.Project.{InForce}
use Rattle.validation_laws.specs.Views.{IsView, IsShownAt, HoldsEnd, has_enough, looks_at_ends}

abbrev pub looks_beyond : Feature → InForce → Bool
looks_beyond f q = judged q.row f && not (looks_at_ends q.row.kind)

abbrev pub shows_at_ends : List InForce → Feature → Bool
shows_at_ends rules f = nat_lt 0 (length (ends f)) && not (list_any (looks_beyond f) rules)

abbrev pub lacks_at : Feature → List Feature → Place → InForce → Bool
lacks_at f hs q r = judged r.row f && not (has_enough r.row hs q)

pub record AreAtEnds (F : List Feature) (f : Feature) (K : List Feature) (os : List Place) (V : List Feature) : Type 0 where
  pub forth : (h : ℕ) (g : Feature) → feature_at V h ≡ Some g → (feature_at F h ≡ Some g) × RectsMeet (env f) (env g)
  pub at_open : Every (λ (q : Place). (h : ℕ) (g : Feature) → feature_at F h ≡ Some g → RectHolds (env g) (point_at q) → feature_at V h ≡ Some g) os
  pub known : (h : ℕ) (g : Feature) → feature_at K h ≡ Some g → HoldsEnd f g → feature_at V h ≡ Some g
  pub subject : feature_at V f.handle ≡ Some f
  pub ascending : IsAscending V

pub record AreShownAtEnds (rules : List InForce) (F : List Feature) (f : Feature) (V : List Feature) : Type 0 where
  pub forth : (h : ℕ) (g : Feature) → feature_at V h ≡ Some g → (feature_at F h ≡ Some g) × RectsMeet (env f) (env g)
  pub at_ends : Every (λ (r : InForce). judged r.row f ≡ true → Every (IsShownAt r.row F V) (ends f)) rules
  pub subject : feature_at V f.handle ≡ Some f
  pub ascending : IsAscending V

abbrev pub IsShownFor : List InForce → List Feature → Feature → List Feature → Type 0
IsShownFor rules F f V = IsView F f V ⊎ ((shows_at_ends rules f ≡ true) × AreShownAtEnds rules F f V)

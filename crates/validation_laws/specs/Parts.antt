-- New entries, put together part by part: the findings of a subject, the subjects of a rule, the rules in force.
--
-- IsRising ns          each number is above those before
-- AreInOrder xs        each finding's partner is above those before
-- IsJoined P xs ys     ys is one part for each element of xs, in their order, and P holds of the element and its part
-- IsNewEntry r a f x e     e is the entry of the finding x, of the rule r and the subject a: of that key, and without a mark
-- IsSubjectPart M F r row a es     the new entries of a rule and a subject: one for each finding of the cutting, or none where the subject
--                                  is not live
-- IsRulePart M F selected rule es      those of a rule and of the selected subjects, in order of subjects
-- IsJudging M F rules selected es      those of all rules, in order of rules
-- live_of F selected   the live features among the selected handles
use Rattle.std.specs.Prelude.{◌≡◌, ℕ, ◌<◌, false, List, [], ◌∷◌, ◌++◌, Some, None, flat_map}
use Rattle.std.specs.Option.{option_to_list}
use Rattle.plane_terms.specs.Lists.{EveryPair, Paired}
use Rattle.topology_terms.specs.Feature.{Feature, feature_at}
use Rattle.topology_terms.specs.Broken.{Row}
use Rattle.topology_terms.specs.Keyed.{IsAscendingBy}
use Rattle.topology_terms.specs.Meaning.{Meaning, Finding, by_partner}
use Rattle.topology_terms.specs.Entry.{Entry}
use Rattle.topology_terms.specs.Project.{InForce}
use Rattle.topology_terms.specs.Settled.{IsEntryOf}

abbrev pub IsRising : List ℕ → Type 0
IsRising ns = EveryPair (λ (m n : ℕ). m < n) ns

abbrev pub AreInOrder : List Finding → Type 0
AreInOrder xs = IsAscendingBy by_partner xs

abbrev pub IsJoined : {A B : Type 0} → (A → List B → Type 0) → List A → List B → Type 0
IsJoined P [] ys = ys ≡ []
IsJoined {A} {B} P (x ∷ xs) ys = (part : List B) × ((rest : List B) × ((ys ≡ part ++ rest) × P x part × IsJoined P xs rest))

pub record IsNewEntry (r a : ℕ) (f : Feature) (x : Finding) (e : Entry) : Type 0 where
  pub rule : e.rule ≡ r
  pub subject : e.subject ≡ a
  pub other : e.other ≡ x.other
  pub unmarked : e.marked ≡ false
  pub found : IsEntryOf f x e

pub record IsSubjectPart (M : Meaning) (F : List Feature) (r : ℕ) (row : Row) (a : ℕ) (es : List Entry) : Type 0 where
  pub live : (f : Feature) → feature_at F a ≡ Some f → (xs : List Finding) × M.IsCutting row F a xs × AreInOrder xs
      × Paired (IsNewEntry r a f) xs es
  pub dead : feature_at F a ≡ None → es ≡ []

abbrev pub IsRulePart : Meaning → List Feature → List ℕ → InForce → List Entry → Type 0
IsRulePart M F selected rule es = IsJoined (IsSubjectPart M F rule.number rule.row) selected es

abbrev pub IsJudging : Meaning → List Feature → List InForce → List ℕ → List Entry → Type 0
IsJudging M F rules selected es = IsJoined (IsRulePart M F selected) rules es

abbrev pub live_of : List Feature → List ℕ → List Feature
live_of F selected = flat_map (λ a. option_to_list (feature_at F a)) selected

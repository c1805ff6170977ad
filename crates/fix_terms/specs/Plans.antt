-- Plans of fixes, and what they leave.
--
-- Edit                     an edit of a plan: it puts a shape in place of that of a live feature, or adds a feature of a class and a subtype
-- after_plan es n at h     what stands at the handle h after these edits, where `at` is what stood and n is the next handle
-- IsAfter es F n G         G are the features after these edits of the features F, new ones under the handles from n on
-- handles_of es n          the handles that the edits put or add, in turn
-- shapes_of es             the shapes that they put or add
-- adds es                  how many of them add
-- IsFirstFault ss fault    of these shapes one is refused for this fault, and those before it have none
-- IsBadPlan es fault       so of the shapes of a plan, and not for want of memory
-- IsPossible es p          each of these edits can be done, one after another
-- AreDone es p q           q is what the edits make of the project p, one after another, as changes of a topology
--
-- Source: own.
use Rattle.std.specs.Prelude.{◌≡◌, ◌≢◌, ◌⊎◌, ℕ, ◌+◌, List, [], ◌∷◌, Option, Some, None}
use Rattle.plane_terms.specs.Shape.{Shape}
use Rattle.plane_terms.specs.ShapeFaults.{IsFault, IsFlawless}
use Rattle.plane_terms.specs.declared.shape_fault.ShapeFault.{ShapeFault}
use Rattle.plane_terms.specs.declared.shape_fault.ShapeFault.TheVariants as shape_fault
use Rattle.topology_terms.specs.Feature.{Feature, feature_of, feature_at, IsAscending}
use Rattle.topology_terms.specs.Causes.{add_cause, change_cause}
use Rattle.topology_terms.specs.Project.{Project}
use Rattle.topology_terms.specs.Changes.{reshaped, IsFeatureSet, IsFeatureAdded}
use Rattle.session_terms.specs.Kept.{set_at}
use Rattle.fix_terms.specs.declared.edit.Edit as edits
use Rattle.fix_terms.specs.declared.edit.Edit.TheVariants.{Put, Add}

abbrev pub Edit : Type 0
Edit = edits.Edit Shape

abbrev pub after_plan : List Edit → ℕ → (ℕ → Option Feature) → ℕ → Option Feature
after_plan [] n at = at
after_plan (Put h s ∷ es) n at = after_plan es n (set_at at h (reshaped (at h) s))
after_plan (Add class t s ∷ es) n at = after_plan es (n + 1) (set_at at n (Some (feature_of n class t s)))

pub record IsAfter (es : List Edit) (F : List Feature) (n : ℕ) (G : List Feature) : Type 0 where
  pub ascending : IsAscending G
  pub each : (h : ℕ) → feature_at G h ≡ after_plan es n (feature_at F) h

abbrev pub handles_of : List Edit → ℕ → List ℕ
handles_of [] n = []
handles_of (Put h s ∷ es) n = h ∷ handles_of es n
handles_of (Add class t s ∷ es) n = n ∷ handles_of es (n + 1)

abbrev pub shapes_of : List Edit → List Shape
shapes_of [] = []
shapes_of (Put h s ∷ es) = s ∷ shapes_of es
shapes_of (Add class t s ∷ es) = s ∷ shapes_of es

abbrev pub adds : List Edit → ℕ
adds [] = 0
adds (Put h s ∷ es) = adds es
adds (Add class t s ∷ es) = adds es + 1

abbrev pub IsFirstFault : List Shape → ShapeFault → Type 0
IsFirstFault [] fault = ⊥
IsFirstFault (s ∷ ss) fault = IsFault s fault ⊎ (IsFlawless s × IsFirstFault ss fault)

pub record IsBadPlan (es : List Edit) (fault : ShapeFault) : Type 0 where
  pub first : IsFirstFault (shapes_of es) fault
  pub other : fault ≢ shape_fault.NoMemory

abbrev pub AreDone : List Edit → Project → Project → Type 0
AreDone [] p q = q ≡ p
AreDone (Put h s ∷ es) p q = (m : Project) × IsFeatureSet h (reshaped (feature_at p.features h) s) p m × AreDone es m q
AreDone (Add class t s ∷ es) p q = (m : Project) × IsFeatureAdded class t s p.next p m × AreDone es m q

abbrev pub IsPossible : List Edit → Project → Type 0
IsPossible [] p = Unit {0}
IsPossible (Put h s ∷ es) p = (change_cause p.features h s.kind ≡ None)
    × ((q : Project) → IsFeatureSet h (reshaped (feature_at p.features h) s) p q → IsPossible es q)
IsPossible (Add class t s ∷ es) p = (add_cause p.classes p.next class s.kind ≡ None)
    × ((q : Project) → IsFeatureAdded class t s p.next p q → IsPossible es q)

-- Worked rows: a draft of two wells, made, changed on both sides, and merged.
use Rattle.std.proofs.Common.{◌≡◌, ◌≢◌, ℕ, ℤ, pos, Option, List, [], ◌∷◌, Some, None, refl, ap}
use Rattle.std.specs.Prelude.{codes}
use Rattle.plane_terms.specs.Point.{Place}
use Rattle.plane_terms.specs.declared.kind.Kind.TheVariants as shapes
use Rattle.topology_terms.specs.Feature.{Feature, feature_of, feature_at}
use Rattle.topology_terms.specs.Project.{Project}
use Rattle.version_terms.specs.declared.place.Place.TheVariants.{Other}
use Rattle.version_terms.specs.Merge.{IsMergedAt, IsConflict}
use Rattle.version_terms.specs.Versions.{Version, Tree, default_name, place_of, version_of, root_of}
use Rattle.version_terms.specs.VersionChanges.{greatest_next, gone_to, raised_version}
use Rattle.version_terms.specs.Versions.{all_of}

abbrev point : ℕ → ℤ → Feature
point h n = feature_of h 1 0 (record { kind = shapes.Point; parts = ((record { x = n; y = n } ∷ []) ∷ []) ∷ [] })

abbrev wells : List Feature → ℕ → Project
wells F next = record {
  classes = record { name = codes "wells"; kind = shapes.Point } ∷ [];
  rules = [];
  features = F;
  next = next;
  dirt = [];
  entries = [];
}

-- the base of the draft; `default` after bob's changes; the draft after ann's
abbrev B : List Feature
B = point 1 (pos 0) ∷ point 2 (pos 1) ∷ []

abbrev D : List Feature
D = point 1 (pos 6) ∷ point 2 (pos 7) ∷ point 4 (pos 8) ∷ []

abbrev V : List Feature
V = point 1 (pos 5) ∷ point 2 (pos 1) ∷ point 3 (pos 9) ∷ []

abbrev plan : Version
plan = record { name = codes "plan"; project = wells V 4; base = Some B }

abbrev main : Version
main = record { name = default_name; project = wells D 5; base = None }

abbrev tree : Tree
tree = record { current = main; others = plan ∷ [] }

-- ---- what stands at the handles
row_base : feature_at B 1 ≡ Some (point 1 (pos 0))
unfolding feature_at
row_base = refl

row_new : feature_at V 3 ≡ Some (point 3 (pos 9))
unfolding feature_at
row_new = refl

row_none : feature_at B 3 ≡ None
unfolding feature_at
row_none = refl

-- ---- the merge, handle by handle: both changed 1, bob changed 2, ann added 3, bob added 4
other_place : (h : ℕ) (m n : ℤ) → m ≢ n → Some (point h m) ≢ Some (point h n)
other_place h m n d e = d (ap x_of e)
  where
    first : List Place → ℤ
    first [] = pos 0
    first (p ∷ ps) = p.x

    ring : List (List Place) → ℤ
    ring [] = pos 0
    ring (r ∷ rs) = first r

    part : List (List (List Place)) → ℤ
    part [] = pos 0
    part (p ∷ ps) = ring p

    x_of : Option Feature → ℤ
    x_of None = pos 0
    x_of (Some f) = part f.shape.parts

row_conflict : IsConflict (Some (point 1 (pos 0))) (Some (point 1 (pos 6))) (Some (point 1 (pos 5)))
row_conflict = record {
  changed = other_place 1 (pos 5) (pos 0) (λ e. cc);
  root_changed = other_place 1 (pos 6) (pos 0) (λ e. cc);
  apart = other_place 1 (pos 5) (pos 6) (λ e. cc);
}

row_stands : IsMergedAt (Some (point 1 (pos 0))) (Some (point 1 (pos 6))) (Some (point 1 (pos 5))) (Some (point 1 (pos 5)))
row_stands = record { untouched = λ e. absurd (other_place 1 (pos 5) (pos 0) (λ d. cc) e); touched = λ d. refl }

row_taken : IsMergedAt (Some (point 2 (pos 1))) (Some (point 2 (pos 7))) (Some (point 2 (pos 1))) (Some (point 2 (pos 7)))
row_taken = record { untouched = λ e. refl; touched = λ d. absurd (d refl) }

row_own : IsMergedAt None None (Some (point 3 (pos 9))) (Some (point 3 (pos 9)))
row_own = record { untouched = λ e. cc; touched = λ d. refl }

row_came : IsMergedAt None (Some (point 4 (pos 8))) None (Some (point 4 (pos 8)))
row_came = record { untouched = λ e. refl; touched = λ d. absurd (d refl) }

row_no_conflict : ¬ (IsConflict (Some (point 2 (pos 1))) (Some (point 2 (pos 7))) (Some (point 2 (pos 1))))
row_no_conflict c = c.changed refl

-- ---- names and places
row_root : root_of tree ≡ wells D 5
row_root = refl

row_plan : version_of tree (codes "plan") ≡ Some plan
row_plan = refl

row_nobody : place_of tree (codes "nobody") ≡ None
row_nobody = refl

row_place : place_of tree (codes "plan") ≡ Some (Other 0)
row_place = refl

row_next : greatest_next (all_of tree) ≡ 5
row_next = refl

row_go : gone_to tree (Other 0) (raised_version 5 plan) ≡ record { current = record plan { project = wells V 5 }; others = main ∷ [] }
row_go = refl

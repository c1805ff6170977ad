-- What a reconcile and a post leave, by the names of the versions.
--
-- IsMergedByName name n hs t u    the version of this name has in u the merge of the features that it and `default` had in t, over its base;
--                                 at n handles it changed, and at hs exactly are the conflicts; its base is what `default` has, and each
--                                 version of another name stays as it was
-- IsPostedByName name n t u       the base of the version of this name was what `default` has, so no change of `default` is lost; in u
--                                 `default` has the features that the version had in t, and so does the version; they are its base; n of
--                                 them changed. Each version of another name stays
use Rattle.std.specs.Prelude.{◌≡◌, ◌≢◌, ℕ, List, Some}
use Rattle.topology_terms.specs.Feature.{Feature}
use Rattle.version_terms.specs.Merge.{IsMerge, AreConflicts}
use Rattle.version_terms.specs.Versions.{Version, Tree, all_of, default_name, root_of, version_of}
use Rattle.version_terms.specs.VersionChanges.{IsFresh, IsSetTo, greatest_next, raised}

pub record IsMergedByName (name : List ℕ) (n : ℕ) (conflicts : List ℕ) (t u : Tree) : Type 0 where
  pub was : Version
  pub is : Version
  pub had : List Feature
  pub there : version_of t name ≡ Some was
  pub now : version_of u name ≡ Some is
  pub base : was.base ≡ Some had
  pub merge : IsMerge had (root_of t).features was.project.features is.project.features
  pub named : AreConflicts had (root_of t).features was.project.features conflicts
  pub taken : IsSetTo is.project.features n (raised (greatest_next (all_of t)) was.project) is.project
  pub new_base : is.base ≡ Some (root_of t).features
  pub others : (other : List ℕ) → other ≢ name → version_of u other ≡ version_of t other

pub record IsPostedByName (name : List ℕ) (n : ℕ) (t u : Tree) : Type 0 where
  pub was : Version
  pub is : Version
  pub had : List Feature
  pub there : version_of t name ≡ Some was
  pub now : version_of u name ≡ Some is
  pub base : was.base ≡ Some had
  pub fresh : IsFresh had (root_of t).features
  pub root : (root_of u).features ≡ was.project.features
  pub features : is.project.features ≡ was.project.features
  pub new_base : is.base ≡ Some was.project.features
  pub taken : IsSetTo was.project.features n (raised (greatest_next (all_of t)) (root_of t)) (root_of u)
  pub others : (other : List ℕ) → other ≢ name → other ≢ default_name → version_of u other ≡ version_of t other

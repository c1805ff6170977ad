-- The parts of a project that a validation reads and changes.
--
-- RuledFeatures        rules in force, features, and the placed rectangles of an index
-- IndexedFeatures      features, and the placed rectangles of an index
-- HasParts p r d es    p has these rules in force and features, this dirt and these entries
-- with_parts p d es    p with this dirt and these entries
use Rattle.std.specs.Prelude.{◌≡◌, List}
use Rattle.plane_terms.specs.Rectangle.{Rectangle}
use Rattle.topology_terms.specs.Feature.{Feature}
use Rattle.topology_terms.specs.Entry.{Entry}
use Rattle.topology_terms.specs.Project.{Project, InForce}
use Rattle.grid_index.specs.declared.placed.Placed.{Placed}

pub record RuledFeatures : Type 0 where
  pub in_force : List InForce
  pub features : List Feature
  pub placed : List Placed

pub record IndexedFeatures : Type 0 where
  pub features : List Feature
  pub placed : List Placed

pub record HasParts (p : Project) (r : RuledFeatures) (d : List Rectangle) (es : List Entry) : Type 0 where
  pub rules : p.rules ≡ r.in_force
  pub features : p.features ≡ r.features
  pub dirt : p.dirt ≡ d
  pub entries : p.entries ≡ es

abbrev pub with_parts : Project → List Rectangle → List Entry → Project
with_parts p d es = record p { dirt = d; entries = es }

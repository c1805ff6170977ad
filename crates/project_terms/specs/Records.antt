-- The projects that a text can say.
--
-- IsRecord p        the next handle is from 1 to 4,294,967,295; at most 64 classes, each of a name, no two of one name; rules by number,
--                   from 1 to 256, each of sides that fit it, no two alike; features by handle, below the next one, each of a class of
--                   its kind, with a shape that is valid; dirty rectangles of the grid, of which none lies in another; errors by key;
--                   each subtype is at most 255
-- IsNumbered q, IsPlaced p f, IsError p e      what holds of each rule, feature and error
-- IsPlain p         the project has no subtype: that of each feature is 0, and no side of a rule binds one
--
-- An error may have a subject that is not live, cells without a point or without bound, and any frame. Its rule is in force, its subject
-- and its partner were given, it has cells exactly if it is not of the whole subject, and each cell has a half-plane. The written form of
-- a valid shape is always within the limit of a line's shape. Source: own.
use Rattle.std.specs.Prelude.{◌≡◌, ◌≢◌, ◌<◌, ◌≤◌, true, false, [], length, Some, None, IfSome}
use Rattle.plane_terms.specs.Lists.{Every, EveryPair}
use Rattle.plane_terms.specs.Rectangle.{IsRectangle}
use Rattle.plane_terms.specs.HalfPlane.{IsHalfPlane}
use Rattle.plane_terms.specs.Dirt.{IsLoose}
use Rattle.plane_terms.specs.Shape.{IsShape}
use Rattle.text_terms.specs.Fields.{is_name}
use Rattle.topology_terms.specs.Feature.{Class, Feature, Side}
use Rattle.topology_terms.specs.Broken.{Row}
use Rattle.topology_terms.specs.Entry.{Entry}
use Rattle.topology_terms.specs.Project.{Project, InForce, rule_at, AreAscending}
use Rattle.topology_terms.specs.Lookups.{kind_of_class}
use Rattle.topology_terms.specs.Causes.{is_fit, is_row}
use Rattle.topology_terms.specs.Feature as features
use Rattle.topology_terms.specs.Entry as entries

abbrev pub IsNumbered : InForce → Type 0
IsNumbered q = (1 ≤ q.number) × (q.number ≤ 256)

-- the subtype that the side binds, where it binds one
abbrev pub IsSmall : Side → Type 0
IsSmall A = IfSome A.subtype (λ s. s ≤ 255)

pub record HasSmallSides (q : InForce) : Type 0 where
  pub origin : IsSmall q.row.origin
  pub dest : IsSmall q.row.dest

pub record IsPlaced (p : Project) (f : Feature) : Type 0 where
  pub from_1 : 1 ≤ f.handle
  pub given : f.handle < p.next
  pub kind : kind_of_class p.classes f.class ≡ Some f.shape.kind
  pub subtype : f.subtype ≤ 255
  pub shape : IsShape f.shape

pub record IsError (p : Project) (e : Entry) : Type 0 where
  pub from_1 : 1 ≤ e.subject
  pub given : e.subject < p.next
  pub partner : e.other < p.next
  pub frame : IsRectangle e.frame
  pub whole : e.whole ≡ true → (e.other ≡ 0) × (e.cells ≡ [])
  pub cells : e.whole ≡ false → e.cells ≢ []
  pub some : Every (λ c. c ≢ []) e.cells
  pub halves : Every (λ c. Every IsHalfPlane c) e.cells
  pub rule : (row : Row) × (rule_at p.rules e.rule ≡ Some row)
  pub numbered : (1 ≤ e.rule) × (e.rule ≤ 256)

pub record IsRecord (p : Project) : Type 0 where
  pub next : (1 ≤ p.next) × (p.next ≤ 4294967295)
  pub few : length p.classes ≤ 64
  pub names : Every (λ (c : Class). is_name c.name ≡ true) p.classes
  pub unlike : EveryPair (λ (c d : Class). c.name ≢ d.name) p.classes
  pub numbers : Every IsNumbered p.rules
  pub rules : AreAscending p.rules
  pub sides : Every HasSmallSides p.rules
  pub fit : Every (λ (q : InForce). is_fit p.classes q.row ≡ true) p.rules
  pub apart : EveryPair (λ (q r : InForce). is_row q.row r.row ≡ false) p.rules
  pub placed : Every (IsPlaced p) p.features
  pub features : features.IsAscending p.features
  pub rectangles : Every IsRectangle p.dirt
  pub loose : IsLoose p.dirt
  pub errors : Every (IsError p) p.entries
  pub entries : entries.IsAscending p.entries

pub record HasPlainSides (q : InForce) : Type 0 where
  pub origin : q.row.origin.subtype ≡ None
  pub dest : q.row.dest.subtype ≡ None

pub record IsPlain (p : Project) : Type 0 where
  pub rules : Every HasPlainSides p.rules
  pub features : Every (λ (f : Feature). f.subtype ≡ 0) p.features

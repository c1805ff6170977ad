-- The families of rules: where a rule of each is broken, by what is taken from the subject and from those around it.
--
-- IsFit k f            the shape of f is of the kind, its segments are proper, and a polygon has some, which meet at ends alone
-- AreFit k l row who F     F ascends, each subject is fit for k, and each feature around one for l
-- AreExact B W xs      the findings xs say exactly at which points, with whom, B is so, and whether W is
-- PairBreaks           a partner around the subject, of the right order, and C of both at p
-- AloneBreaks          no partner, and Q of the subject and of all features around it, at p
-- WholeBreaks          T of the subject and of all features around it
-- IsNone, IsAmong      forms of sentences without a partner: C of no feature of the second class; Q of the subject among its class
-- IsWithLater, IsWithSecond    forms of sentences with a partner: a later one of the class; one of the second class
-- IsWholeNone, IsWholeAlone    forms of sentences on the whole subject
use Rattle.std.specs.Prelude.{◌≡◌, ◌≢◌, ◌↔◌, ℕ, ◌<◌, true, false, List, [], Some}
use Rattle.plane_terms.specs.Lists.{Every}
use Rattle.plane_terms.specs.Point.{Point}
use Rattle.plane_terms.specs.Segment.{IsSegment}
use Rattle.plane_terms.specs.Polygon.{IsSimpleList}
use Rattle.plane_terms.specs.Cell.{InCells, HavePoints}
use Rattle.plane_terms.specs.declared.kind.Kind.{Kind}
use Rattle.plane_terms.specs.declared.kind.Kind.TheVariants as shapes
use Rattle.topology_terms.specs.Feature.{Feature, Side, IsOf, NoneOf, feature_at, sides, IsAscending}
use Rattle.topology_terms.specs.Together.{of_side}
use Rattle.topology_terms.specs.Broken.{Row, judged}
use Rattle.topology_terms.specs.Meaning.{Finding, finding_at}
use Rattle.topology_terms.specs.Plans.{Around, Later, Own, Second, Other, side_by}

pub record IsFit (k : Kind) (f : Feature) : Type 0 where
  pub kind : f.shape.kind ≡ k
  pub proper : Every IsSegment (sides f)
  pub simple : f.shape.kind ≡ shapes.Polygon → IsSimpleList (sides f)
  pub boundary : f.shape.kind ≡ shapes.Polygon → sides f ≢ []

pub record AreFit (k l : Kind) (row : Row) (who : Around) (F : List Feature) : Type 0 where
  pub ascending : IsAscending F
  pub subject : (a : ℕ) (f : Feature) → feature_at F a ≡ Some f → judged row f ≡ true → IsFit k f
  pub around : (f : Feature) → judged row f ≡ true → (b : ℕ) (g : Feature) → IsOf F (side_by who row f) b g → IsFit l g

pub record AreExact (B : ℕ → Point → Type 0) (W : Type 0) (xs : List Finding) : Type 0 where
  pub points : (b : ℕ) (x : Finding) → finding_at xs b ≡ Some x → x.whole ≡ false → (p : Point) → InCells x.cells p ↔ B b p
  pub some : (b : ℕ) (x : Finding) → finding_at xs b ≡ Some x → x.whole ≡ false → x.cells ≢ []
  pub have_points : (b : ℕ) (x : Finding) → finding_at xs b ≡ Some x → HavePoints x.cells
  pub wholes : (b : ℕ) (x : Finding) → finding_at xs b ≡ Some x → x.whole ≡ true → (b ≡ 0) × (x.cells ≡ []) × W
  pub each_point : (b : ℕ) (p : Point) → B b p → (x : Finding) × (finding_at xs b ≡ Some x) × InCells x.cells p
  pub each_whole : W → (x : Finding) × (finding_at xs 0 ≡ Some x) × (x.whole ≡ true)

abbrev pub IsInOrder : Around → ℕ → ℕ → Type 0
IsInOrder Later a b = a < b
IsInOrder Own a b = Unit {0}
IsInOrder Second a b = Unit {0}
IsInOrder Other a b = Unit {0}

pub record PairBreaks (C : Feature → Feature → Point → Type 0) (row : Row) (who : Around) (F : List Feature) (a b : ℕ)
    (p : Point) : Type 0 where
  pub f : Feature
  pub g : Feature
  pub live : feature_at F a ≡ Some f
  pub judged : judged row f ≡ true
  pub partner : IsOf F (side_by who row f) b g
  pub order : IsInOrder who a b
  pub common : C f g p

pub record AloneBreaks (Q : Feature → List Feature → Point → Type 0) (row : Row) (who : Around) (F : List Feature) (a b : ℕ)
    (p : Point) : Type 0 where
  pub f : Feature
  pub live : feature_at F a ≡ Some f
  pub judged : judged row f ≡ true
  pub alone : b ≡ 0
  pub there : Q f (of_side (side_by who row f) F) p

pub record WholeBreaks (T : Feature → List Feature → Type 0) (row : Row) (who : Around) (F : List Feature) (a : ℕ) : Type 0 where
  pub f : Feature
  pub live : feature_at F a ≡ Some f
  pub judged : judged row f ≡ true
  pub there : T f (of_side (side_by who row f) F)

-- ---- the same, as sentences say it: by the maps of live features, and with the subject of the first class
pub record IsNone (X C : Feature → Point → Type 0) (A B : Side) (F : List Feature) (a b : ℕ) (p : Point) : Type 0 where
  pub f : Feature
  pub subject : IsOf F A a f
  pub alone : b ≡ 0
  pub there : X f p
  pub none : NoneOf F B (λ g. C g p)

pub record IsAmong (Q : Feature → List Feature → Point → Type 0) (A B : Side) (F : List Feature) (a b : ℕ) (p : Point) : Type 0 where
  pub f : Feature
  pub subject : IsOf F A a f
  pub alone : b ≡ 0
  pub there : Q f (of_side A F) p

pub record IsWithLater (C : Feature → Feature → Point → Type 0) (A B : Side) (F : List Feature) (a b : ℕ) (p : Point) : Type 0 where
  pub f : Feature
  pub g : Feature
  pub subject : IsOf F A a f
  pub partner : IsOf F A b g
  pub first : a < b
  pub common : C f g p

pub record IsWithSecond (C : Feature → Feature → Point → Type 0) (A B : Side) (F : List Feature) (a b : ℕ) (p : Point) : Type 0 where
  pub f : Feature
  pub g : Feature
  pub subject : IsOf F A a f
  pub partner : IsOf F B b g
  pub common : C f g p

pub record IsWholeNone (C : Feature → Feature → Type 0) (A B : Side) (F : List Feature) (a : ℕ) : Type 0 where
  pub f : Feature
  pub subject : IsOf F A a f
  pub none : NoneOf F B (λ g. C f g)

pub record IsWholeAlone (T : Feature → Type 0) (A B : Side) (F : List Feature) (a : ℕ) : Type 0 where
  pub f : Feature
  pub subject : IsOf F A a f
  pub there : T f

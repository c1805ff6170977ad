-- Features and their classes.
--
-- Class              its name and the kind of its shapes; classes are numbered from 1
-- Feature            its handle, its class, its subtype, its shape
-- feature_of         a feature of these; no other definition builds one from its parts
-- Side, no_side      what a rule speaks of on one side: a class, or one subtype of it; and where a rule has no such side: no feature is on
--                    it, since none is of the class 0
-- feature_at F h     the feature of handle h; F is a list ascending by handle
-- IsOnSide A f, is_on_side A f     f is of the side's class and, where the side binds a subtype, of that; the test of it
-- binds o s          the subtype s passes a side that binds o: each does where it binds none
-- IsOf F A h f       f is the live feature h, and on the side
-- NoneOf F A P       P holds of no live feature on the side
-- sides f, place f, env f   the segments, the place of a point, the envelope
-- Agree P F G        F and G have the same features among those of which P holds in either
-- IsSetAt h after F G     G is F with the feature of h set, or taken away
-- IsAscending F      each handle is above those before
--
-- Source: feature classes of a geodatabase (Esri); feature_at and the lists own.
use Rattle.std.specs.Prelude.{Bool, true, ◌≡◌, ◌≢◌, ℕ, ◌==◌, ◌&&◌, List, Option, Some, None, IfSome}
use Rattle.plane_terms.specs.Point.{Place}
use Rattle.plane_terms.specs.Rectangle.{Rectangle}
use Rattle.plane_terms.specs.Segment.{Segment}
use Rattle.plane_terms.specs.Shape.{Shape, segments_of, place_of, envelope_of}
use Rattle.plane_terms.specs.declared.kind.Kind.{Kind}
use Rattle.topology_terms.specs.Keyed.{Keyed, numbered, item_at, IsAscendingBy}

pub record Class : Type 0 where
  pub name : List ℕ
  pub kind : Kind

pub record Feature : Type 0 where
  pub handle : ℕ
  pub class : ℕ
  pub subtype : ℕ
  pub shape : Shape

abbrev pub feature_of : ℕ → ℕ → ℕ → Shape → Feature
feature_of h class subtype shape = record { handle = h; class = class; subtype = subtype; shape = shape }

pub record Side : Type 0 where
  pub class : ℕ
  pub subtype : Option ℕ

abbrev pub no_side : Side
no_side = record { class = 0; subtype = None }

abbrev pub by_handle : Keyed Feature ℕ
by_handle = numbered (λ (f : Feature). f.handle)

unfoldable pub feature_at : List Feature → ℕ → Option Feature
feature_at F h = item_at by_handle F h

pub record IsOnSide (A : Side) (f : Feature) : Type 0 where
  pub class : f.class ≡ A.class
  pub subtype : IfSome A.subtype (λ s. f.subtype ≡ s)

abbrev pub binds : Option ℕ → ℕ → Bool
binds None s = true
binds (Some t) s = s == t

abbrev pub is_on_side : Side → Feature → Bool
is_on_side A f = f.class == A.class && binds A.subtype f.subtype

pub record IsOf (F : List Feature) (A : Side) (h : ℕ) (f : Feature) : Type 0 where
  pub live : feature_at F h ≡ Some f
  pub on_side : IsOnSide A f

abbrev pub NoneOf : List Feature → Side → (Feature → Type 0) → Type 0
NoneOf F A P = (h : ℕ) (f : Feature) → IsOf F A h f → ¬ (P f)

abbrev pub sides : Feature → List Segment
sides f = segments_of f.shape

abbrev pub place : Feature → Place
place f = place_of f.shape

abbrev pub env : Feature → Rectangle
env f = envelope_of f.shape

pub record Agree (P : Feature → Type 0) (F G : List Feature) : Type 0 where
  pub forth : (h : ℕ) (f : Feature) → feature_at F h ≡ Some f → P f → feature_at G h ≡ Some f
  pub back : (h : ℕ) (f : Feature) → feature_at G h ≡ Some f → P f → feature_at F h ≡ Some f

pub record IsSetAt (h : ℕ) (after : Option Feature) (F G : List Feature) : Type 0 where
  pub here : feature_at G h ≡ after
  pub others : (k : ℕ) → k ≢ h → feature_at G k ≡ feature_at F k

-- each handle is above those before
abbrev pub IsAscending : List Feature → Type 0
IsAscending F = IsAscendingBy by_handle F

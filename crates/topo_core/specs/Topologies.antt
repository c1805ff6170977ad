-- What every topology keeps.
--
-- project_of s rules d es     the project of the store s, these rules in force, this dirt and these entries
-- IsErrorOf n a b e    the subject a was given before the handle n, and so was the partner b, or it is 0; the entry e is of the whole
--                      subject or has cells, and each of its cells has a half-plane
-- IsNamed c            the name of the class is a name
-- IsFormed f           the shape of the feature is valid, and its subtype is at most 255
-- IsDrawn e            the frame of the entry is a rectangle of the grid, and the half-planes of its cells keep their limits
-- IsTopology p         classes and features as a store keeps them; at most 256 rules, by number, from 1 to 256, each of classes that fit
--                      it, no two alike; entries by key, each as above; it is well made
-- AreLive ps F         each of the placed rectangles ps is that of a live feature of F, under its handle
-- IsIndexed p ps       it is such a project, each live feature of it stands among the placed rectangles ps, and nothing else does
use Rattle.std.specs.Prelude.{◌≡◌, ◌≢◌, ◌<◌, ◌≤◌, ℕ, true, false, List, [], Some, Contains, length}
use Rattle.plane_terms.specs.Lists.{Every, EveryPair}
use Rattle.plane_terms.specs.Rectangle.{Rectangle, IsRectangle}
use Rattle.plane_terms.specs.HalfPlane.{IsHalfPlane}
use Rattle.plane_terms.specs.Cell.{Cell}
use Rattle.plane_terms.specs.Shape.{IsShape}
use Rattle.text_terms.specs.Fields.{is_name}
use Rattle.topology_terms.specs.Causes.{is_fit, is_row}
use Rattle.topology_terms.specs.Feature.{Class, Feature, feature_at}
use Rattle.topology_terms.specs.Entry.{Entry, entry_at}
use Rattle.topology_terms.specs.Entry as entries
use Rattle.topology_terms.specs.Project.{Project, InForce, AreAscending, IsWellMade}
use Rattle.project_terms.specs.Records.{IsNumbered}
use Rattle.feature_store.specs.Stored.{Stored}
use Rattle.feature_store.specs.Keeps.{IsStore}
use Rattle.grid_index.specs.declared.placed.Placed.{Placed}
use Rattle.validation.specs.Placed.{placed_of, ArePlaced}

abbrev pub project_of : Stored → List InForce → List Rectangle → List Entry → Project
project_of s rules d es = record { classes = s.classes; rules = rules; features = s.features; next = s.next; dirt = d; entries = es }

pub record IsErrorOf (next a b : ℕ) (e : Entry) : Type 0 where
  pub from_1 : 1 ≤ a
  pub given : a < next
  pub partner : b < next
  pub cells : e.whole ≡ false → e.cells ≢ []
  pub some : Every (λ (c : Cell). c ≢ []) e.cells

abbrev pub IsNamed : Class → Type 0
IsNamed c = is_name c.name ≡ true

pub record IsFormed (f : Feature) : Type 0 where
  pub subtype : f.subtype ≤ 255
  pub shape : IsShape f.shape

pub record IsDrawn (e : Entry) : Type 0 where
  pub frame : IsRectangle e.frame
  pub halves : Every (λ (c : Cell). Every IsHalfPlane c) e.cells

pub record IsTopology (p : Project) : Type 0 where
  pub store : IsStore p.classes p.features p.next
  pub rules : AreAscending p.rules
  pub few : length p.rules ≤ 256
  pub numbers : Every IsNumbered p.rules
  pub fit : Every (λ (q : InForce). is_fit p.classes q.row ≡ true) p.rules
  pub apart : EveryPair (λ (q r : InForce). is_row q.row r.row ≡ false) p.rules
  pub order : entries.IsAscending p.entries
  pub made : IsWellMade p
  pub errors : (r a b : ℕ) (e : Entry) → entry_at p.entries r a b ≡ Some e → IsErrorOf p.next a b e

abbrev pub AreLive : List Placed → List Feature → Type 0
AreLive ps F = (q : Placed) → Contains ps q → (h : ℕ) × (f : Feature) × (feature_at F h ≡ Some f) × (q ≡ placed_of f)

pub record IsIndexed (p : Project) (ps : List Placed) : Type 0 where
  pub topology : IsTopology p
  pub placed : ArePlaced ps p.features
  pub live : AreLive ps p.features

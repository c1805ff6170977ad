-- The stored entries of a rule and a subject, beside those that are found afresh.
--
-- LiesIn d es e         off the dirt each point of e is in the entry of its key in es
-- IsEntrySound d o fresh e    off the dirt e has no point but those of its fresh entry; e is framed, if it is not whole; its frame stands
-- WholesAgree d o fresh stored r a    where the envelope is there and clear of the dirt, both have a whole entry, or none has
-- IsSoundPair d o fresh stored r a    `IsSoundAt`, with the fresh entries in place of what is broken; o is the envelope of the live subject
-- AreExact M F row fresh r a     the fresh entries say exactly what is broken
use Rattle.std.specs.Prelude.{◌≡◌, ◌↔◌, ℕ, false, List, Option, Some}
use Rattle.plane_terms.specs.Point.{Point}
use Rattle.plane_terms.specs.Rectangle.{Rectangle}
use Rattle.plane_terms.specs.Cell.{InCells}
use Rattle.plane_terms.specs.Dirt.{Covers, MeetsDirt}
use Rattle.topology_terms.specs.Feature.{Feature}
use Rattle.topology_terms.specs.Broken.{Row}
use Rattle.topology_terms.specs.Meaning.{Meaning}
use Rattle.topology_terms.specs.Entry.{Entry, entry_at, HasCellsAt, HasWhole, IsFramed}
use Rattle.sound_check.specs.Frames.{Stands}

abbrev pub LiesIn : List Rectangle → List Entry → Entry → Type 0
LiesIn d es e = (q : Point) → ¬ (Covers d q) → InCells e.cells q → HasCellsAt es e.rule e.subject e.other q

abbrev pub IsFramedOrWhole : Entry → Type 0
IsFramedOrWhole e = e.whole ≡ false → IsFramed e

pub record IsEntrySound (d : List Rectangle) (o : Option Rectangle) (fresh : List Entry) (e : Entry) : Type 0 where
  pub stands : Stands d o e.frame
  pub framed : IsFramedOrWhole e
  pub within : LiesIn d fresh e

abbrev pub WholesAgree : List Rectangle → Option Rectangle → List Entry → List Entry → ℕ → ℕ → Type 0
WholesAgree d o fresh stored r a = (s : Rectangle) → o ≡ Some s → ¬ (MeetsDirt d s) → HasWhole stored r a ↔ HasWhole fresh r a

pub record IsSoundPair (d : List Rectangle) (o : Option Rectangle) (fresh stored : List Entry) (r a : ℕ) : Type 0 where
  pub points : (q : Point) → ¬ (Covers d q) → (b : ℕ) → HasCellsAt stored r a b q ↔ HasCellsAt fresh r a b q
  pub whole : WholesAgree d o fresh stored r a
  pub cells : (b : ℕ) (e : Entry) → entry_at stored r a b ≡ Some e → e.whole ≡ false → IsFramed e
  pub frames : (b : ℕ) (e : Entry) → entry_at stored r a b ≡ Some e → Stands d o e.frame

pub record AreExact (M : Meaning) (F : List Feature) (row : Row) (fresh : List Entry) (r a : ℕ) : Type 0 where
  pub points : (b : ℕ) (q : Point) → HasCellsAt fresh r a b q ↔ M.BrokenAt row F a b q
  pub whole : HasWhole fresh r a ↔ M.BrokenWhole row F a

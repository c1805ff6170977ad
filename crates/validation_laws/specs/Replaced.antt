-- What a replacement of entries by subject leaves.
--
-- AreRemarked old fresh new     new is fresh, or none where there is no fresh one, and its mark is as `KeepsMark` says
-- IsReplaced selected old fresh new     the entries of the selected subjects give way to the fresh ones, and all others stay
-- AreFresh selected es     entries without marks, of selected subjects
--
-- Source: exceptions of a geodatabase topology (Esri); that a mark is kept with its extent, frame and cells is own.
use Rattle.std.specs.Prelude.{◌≡◌, ℕ, false, List, Option, Some, None, Contains}
use Rattle.plane_terms.specs.Lists.{Every}
use Rattle.topology_terms.specs.Entry.{Entry, entry_at}
use Rattle.topology_terms.specs.Changes.{KeepsMark}

pub record IsRemarked (old : Option Entry) (fresh new : Entry) : Type 0 where
  pub same : new ≡ record fresh { marked = new.marked }
  pub mark : KeepsMark old new

abbrev pub AreRemarked : Option Entry → Option Entry → Option Entry → Type 0
AreRemarked old None None = Unit {0}
AreRemarked old (Some f) (Some n) = IsRemarked old f n
AreRemarked old None (Some n) = ⊥
AreRemarked old (Some f) None = ⊥

pub record IsReplaced (selected : List ℕ) (old fresh new : List Entry) : Type 0 where
  pub kept : (r a b : ℕ) → ¬ (Contains selected a) → entry_at new r a b ≡ entry_at old r a b
  pub came : (r a b : ℕ) → Contains selected a → AreRemarked (entry_at old r a b) (entry_at fresh r a b) (entry_at new r a b)

pub record IsNewOf (selected : List ℕ) (e : Entry) : Type 0 where
  pub unmarked : e.marked ≡ false
  pub chosen : Contains selected e.subject

abbrev pub AreFresh : List ℕ → List Entry → Type 0
AreFresh selected es = Every (IsNewOf selected) es

-- What each call leaves of the sessions and the ground.
--
-- MayNamed may name ss         each kept step of the session of this name, where there is one, may stand at its handle
-- IsRoomMade name old new      the sessions are as they were, but for room
-- IsBegun name old new         a session of this name came, without steps
-- IsNoted name t old new       the step is the last done one of the session of this name, and its undone ones went
-- IsUndone, IsRedone         the last done step of the session of this name was undone on the ground; its first undone one was done again
-- IsStill same g h             the ground is as it was, or the same as it
-- IsDiscarded, IsDiscardedInPart     its done steps were undone on the ground, the last one first, and it went; the last ones were, and it
--                                    stays
use Rattle.std.specs.Prelude.{◌≡◌, ◌⊎◌, ◌<◌, ℕ, [], length, List, Option, Some, None}
use Rattle.topology_terms.specs.Feature.{Feature}
use Rattle.session_terms.specs.Kept.{KeptStep, KeptSession}
use Rattle.session_terms.specs.KeptChanges.{IsKeptNoted, IsSameButRoom, IsKeptChange, kept_named, with_kept_opened, without_kept}
use Rattle.edit_session.specs.declared.fault.SessionFault.{SessionFault}
use Rattle.edit_session.specs.declared.fault.SessionFault.TheVariants as fault
use Rattle.edit_session.specs.Moves.{MayAll, IsUndoneOn, IsRedoneOn, AreUndoneOn, IsCutShort}

abbrev pub MayNamed : (ℕ → Option Feature → Type 0) → List ℕ → List KeptSession → Type 0
MayNamed may name ss = (s : KeptSession) → kept_named ss name ≡ Some s → MayAll may s

pub record IsRoomMade (name : List ℕ) (old new : List KeptSession) : Type 0 where
  pub was : KeptSession
  pub is : KeptSession
  pub change : IsKeptChange name was is old new
  pub same : IsSameButRoom was is

pub record IsBegun (name : List ℕ) (old new : List KeptSession) : Type 0 where
  pub free : kept_named old name ≡ None
  pub few : length old < 16
  pub session : KeptSession
  pub named : session.name ≡ name
  pub done : session.done ≡ []
  pub undone : session.undone ≡ []
  pub sessions : new ≡ with_kept_opened old session

pub record IsNoted (name : List ℕ) (t : KeptStep) (old new : List KeptSession) : Type 0 where
  pub was : KeptSession
  pub is : KeptSession
  pub change : IsKeptChange name was is old new
  pub noted : IsKeptNoted was t is

pub record IsUndone {G : Type 0} (swapped : ℕ → Option Feature → Option Feature → G → G
    → Type 0) (name : List ℕ) (old new : List KeptSession) (g h : G) : Type 0 where
  pub was : KeptSession
  pub is : KeptSession
  pub change : IsKeptChange name was is old new
  pub undone : IsUndoneOn swapped was is g h

pub record IsRedone {G : Type 0} (swapped : ℕ → Option Feature → Option Feature → G → G
    → Type 0) (name : List ℕ) (old new : List KeptSession) (g h : G) : Type 0 where
  pub was : KeptSession
  pub is : KeptSession
  pub change : IsKeptChange name was is old new
  pub redone : IsRedoneOn swapped was is g h

abbrev pub IsStill : {G : Type 0} → (G → G → Type 0) → G → G → Type 0
IsStill same g h = (h ≡ g) ⊎ same g h

pub record IsDiscarded {G : Type 0} (swapped : ℕ → Option Feature → Option Feature → G → G
    → Type 0) (name : List ℕ) (old new : List KeptSession) (g h : G) : Type 0 where
  pub was : KeptSession
  pub last : KeptSession
  pub there : kept_named old name ≡ Some was
  pub undone : AreUndoneOn swapped was.done was last g h
  pub sessions : new ≡ without_kept old name

pub record IsDiscardedInPart {G : Type 0} (swapped : ℕ → Option Feature → Option Feature → G → G → Type 0) (stays : G → G
    → Type 0) (name : List ℕ) (old new : List KeptSession) (g h : G) : Type 0 where
  pub was : KeptSession
  pub is : KeptSession
  pub change : IsKeptChange name was is old new
  pub cut_short : IsCutShort swapped stays was is g h

pub record IsAbsent {G : Type 0} (name : List ℕ) (old new : List KeptSession) (g h : G) : Type 0 where
  pub absent : kept_named old name ≡ None
  pub sessions : new ≡ old
  pub features : h ≡ g

abbrev pub IsDiscardFault : {G : Type 0} → (ℕ → Option Feature → Option Feature → G → G → Type 0) → (G → G → Type 0) → List ℕ
    → List KeptSession → List KeptSession → G → G → SessionFault → Type 0
IsDiscardFault swapped stays name old new g h fault.NoSession = IsAbsent name old new g h
IsDiscardFault swapped stays name old new g h fault.NoMemory = IsDiscardedInPart swapped stays name old new g h
IsDiscardFault swapped stays name old new g h other = ⊥

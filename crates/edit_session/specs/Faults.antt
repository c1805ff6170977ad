-- Why a call of the sessions is refused.
--
-- IsFirstNamed name ss i     the session at i, from 0, is the first of this name
-- IsIndexOf name ss i        and there is one there
-- IsPlaceFor name ss i     the name is below that of the session at i, where there is one, and below none before
-- IsEndFault, IsBeginFault, IsUndoFault, IsRedoFault     the first cause that there is
-- HasRoom ss name            there is room for a step more in the session of this name
use Rattle.std.specs.Prelude.{◌≡◌, ◌≢◌, ◌≤◌, ◌<◌, ℕ, zero, suc, List, [], ◌∷◌, length, Some, None, true, false}
use Rattle.session_terms.specs.Kept.{KeptStep, KeptSession}
use Rattle.session_terms.specs.KeptChanges.{kept_named, is_below}
use Rattle.edit_session.specs.declared.fault.SessionFault.{SessionFault}
use Rattle.edit_session.specs.declared.fault.SessionFault.TheVariants as fault

abbrev pub IsFirstNamed : List ℕ → List KeptSession → ℕ → Type 0
IsFirstNamed name [] i = ⊥
IsFirstNamed name (o ∷ ss) zero = o.name ≡ name
IsFirstNamed name (o ∷ ss) (suc i) = (o.name ≢ name) × IsFirstNamed name ss i

pub record IsIndexOf (name : List ℕ) (ss : List KeptSession) (i : ℕ) : Type 0 where
  pub within : i < length ss
  pub first : IsFirstNamed name ss i

abbrev pub IsPlaceFor : List ℕ → List KeptSession → ℕ → Type 0
IsPlaceFor name [] i = Unit {0}
IsPlaceFor name (o ∷ ss) zero = is_below name o.name ≡ true
IsPlaceFor name (o ∷ ss) (suc i) = (is_below name o.name ≡ false) × IsPlaceFor name ss i

pub record IsOpenAlready (ss : List KeptSession) (name : List ℕ) : Type 0 where
  pub session : KeptSession
  pub there : kept_named ss name ≡ Some session

pub record IsFull (ss : List KeptSession) (name : List ℕ) : Type 0 where
  pub free : kept_named ss name ≡ None
  pub full : length ss ≡ 16

pub record HasNone (steps : KeptSession → List KeptStep) (ss : List KeptSession) (name : List ℕ) : Type 0 where
  pub session : KeptSession
  pub there : kept_named ss name ≡ Some session
  pub none : steps session ≡ []

abbrev pub IsBeginFault : List KeptSession → List ℕ → SessionFault → Type 0
IsBeginFault ss name fault.OpenAlready = IsOpenAlready ss name
IsBeginFault ss name fault.SessionsFull = IsFull ss name
IsBeginFault ss name fault.NoMemory = Unit {0}
IsBeginFault ss name other = ⊥

abbrev pub IsEndFault : List KeptSession → List ℕ → SessionFault → Type 0
IsEndFault ss name fault.NoSession = kept_named ss name ≡ None
IsEndFault ss name other = ⊥

abbrev pub IsSessionFault : List KeptSession → List ℕ → SessionFault → Type 0
IsSessionFault ss name fault.NoSession = kept_named ss name ≡ None
IsSessionFault ss name fault.NoMemory = Unit {0}
IsSessionFault ss name other = ⊥

abbrev pub IsUndoFault : List KeptSession → List ℕ → SessionFault → Type 0
IsUndoFault ss name fault.NoSession = kept_named ss name ≡ None
IsUndoFault ss name fault.NothingToUndo = HasNone (λ (s : KeptSession). s.done) ss name
IsUndoFault ss name fault.NoMemory = Unit {0}
IsUndoFault ss name other = ⊥

abbrev pub IsRedoFault : List KeptSession → List ℕ → SessionFault → Type 0
IsRedoFault ss name fault.NoSession = kept_named ss name ≡ None
IsRedoFault ss name fault.NothingToRedo = HasNone (λ (s : KeptSession). s.undone) ss name
IsRedoFault ss name fault.NoMemory = Unit {0}
IsRedoFault ss name other = ⊥

pub record HasRoom (ss : List KeptSession) (name : List ℕ) : Type 0 where
  pub session : KeptSession
  pub there : kept_named ss name ≡ Some session
  pub room : 1 ≤ session.room

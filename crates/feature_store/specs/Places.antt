-- Where a handle stands in a list of slots that ascends by handle.
--
-- AreSlots S           each handle is above those before
-- IsPlace h S i        i slots of S have handles below h, and they come first
-- IsHere h S i         and the next one has the handle h
-- IsGap h S i          and none has the handle h
-- IsFound h S r        the place of the slot of handle h; or, where there is none, the place at which it would stand
use Rattle.std.specs.Prelude.{◌≡◌, ℕ, ◌<◌, ◌≤◌, ◌+◌, List, ◌∷◌, length, take, drop, Result, MatchResult}
use Rattle.plane_terms.specs.Lists.{Every}
use Rattle.topology_terms.specs.Keyed.{IsAscendingBy}
use Rattle.feature_store.specs.declared.slot.Slot.{Slot}
use Rattle.feature_store.specs.Slots.{handle_in, by_slot}

abbrev pub AreSlots : List Slot → Type 0
AreSlots S = IsAscendingBy by_slot S

pub record IsPlace (h : ℕ) (S : List Slot) (i : ℕ) : Type 0 where
  pub within : i ≤ length S
  pub before : Every (λ (s : Slot). handle_in s < h) (take i S)
  pub after : Every (λ (s : Slot). h ≤ handle_in s) (drop i S)

pub record IsHere (h : ℕ) (S : List Slot) (i : ℕ) : Type 0 where
  pub place : IsPlace h S i
  pub slot : Slot
  pub rest : drop i S ≡ slot ∷ drop (i + 1) S
  pub handle : handle_in slot ≡ h

pub record IsGap (h : ℕ) (S : List Slot) (i : ℕ) : Type 0 where
  pub place : IsPlace h S i
  pub above : Every (λ (s : Slot). h < handle_in s) (drop i S)

abbrev pub IsFound : ℕ → List Slot → Result ℕ ℕ → Type 0
IsFound h S r = MatchResult r (IsHere h S) (IsGap h S)

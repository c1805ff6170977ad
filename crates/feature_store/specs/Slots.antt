-- The slots of a store: the places of its features.
--
-- handle_in s       the handle of the slot
-- feature_in s      the feature in the slot, where it is filled
-- slot_of h o       the slot of the handle h: filled with the feature, or empty where there is none
-- by_slot           slots by their handles
-- filled S          the features in the slots that are filled, in their order
-- IsSlotted S n k   slots ascend by handle, below the handle n, and k of them are filled
use Rattle.std.specs.Prelude.{◌≡◌, ℕ, ◌<◌, List, [], ◌∷◌, ◌++◌, length, Option, Some, None}
use Rattle.std.specs.Option.{option_to_list}
use Rattle.plane_terms.specs.Lists.{Every}
use Rattle.topology_terms.specs.Feature.{Feature}
use Rattle.topology_terms.specs.Keyed.{Keyed, numbered, IsAscendingBy}
use Rattle.feature_store.specs.declared.slot.Slot.{Slot}
use Rattle.feature_store.specs.declared.slot.Slot.TheVariants.{Filled, Empty}

abbrev pub handle_in : Slot → ℕ
handle_in (Filled f) = f.handle
handle_in (Empty h) = h

abbrev pub feature_in : Slot → Option Feature
feature_in (Filled f) = Some f
feature_in (Empty h) = None

abbrev pub slot_of : ℕ → Option Feature → Slot
slot_of h (Some f) = Filled f
slot_of h None = Empty h

abbrev pub by_slot : Keyed Slot ℕ
by_slot = numbered handle_in

abbrev pub filled : List Slot → List Feature
filled [] = []
filled (s ∷ S) = option_to_list (feature_in s) ++ filled S

pub record IsSlotted (S : List Slot) (next count : ℕ) : Type 0 where
  pub ascending : IsAscendingBy by_slot S
  pub below : Every (λ (s : Slot). handle_in s < next) S
  pub live : count ≡ length (filled S)

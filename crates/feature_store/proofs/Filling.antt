-- Slots by their handles, and the features in those that are filled.
use Rattle.std.proofs.Common.{ℕ, ◌≡◌, ◌<◌, ◌≤◌, ◌+◌, ◌-◌, List, [], ◌∷◌, ◌++◌, length, take, drop, get_or, append_assoc, length-append, refl, sym, ◌∙◌, ap, arith, Option, Some, None}
use Rattle.std.proofs.lemmas.List.{take_more, drop_more, take-append-drop, append-nil, map-append}
use Rattle.std.proofs.lemmas.Grind.{flat_map-append}
use Rattle.std.specs.Prelude.{slice_get, map, flat_map}
use Rattle.std.specs.Option.{option_to_list, IfSome}
use Rattle.plane_terms.specs.Lists.{Every}
use Rattle.plane_terms.proofs.ListLemmas.{every_append}
use Rattle.topology_terms.specs.Feature.{Feature, IsAscending}
use Rattle.sound_laws.proofs.Keyed.{AreKeys, numbers}
use Rattle.feature_store.specs.declared.slot.Slot.{Slot}
use Rattle.feature_store.specs.declared.slot.Slot.TheVariants.{Filled, Empty}
use Rattle.feature_store.specs.Slots.{handle_in, feature_in, slot_of, by_slot, filled}
use Rattle.feature_store.specs.Places.{AreSlots}

pub slot_keys : AreKeys by_slot
slot_keys = numbers handle_in

-- ---- a slot with what may be put into it
pub handle_of_slot : (h : ℕ) (o : Option Feature) → IfSome o (λ (f : Feature). f.handle ≡ h) → handle_in (slot_of h o) ≡ h
handle_of_slot h None own = refl
handle_of_slot h (Some f) own = own

pub feature_of_slot : (h : ℕ) (o : Option Feature) → feature_in (slot_of h o) ≡ o
feature_of_slot h None = refl
feature_of_slot h (Some f) = refl

pub own_feature : (h : ℕ) (s : Slot) → handle_in s ≡ h → IfSome (feature_in s) (λ (f : Feature). f.handle ≡ h)
own_feature h (Filled f) e = e
own_feature h (Empty k) e = tt

-- ---- the features in order
pub filled_append : (S T : List Slot) → filled (S ++ T) ≡ filled S ++ filled T
filled_append [] T = refl
filled_append (s ∷ S) T = ap (λ F. option_to_list (feature_in s) ++ F) (filled_append S T)
    ∙ sym (append_assoc (option_to_list (feature_in s)) (filled S) (filled T))

pub filled_last : (S : List Slot) (f : Feature) → filled (S ++ Filled f ∷ []) ≡ filled S ++ f ∷ []
filled_last S f = filled_append S (Filled f ∷ [])

-- what holds of the handles of slots holds of the handles of features
pub filled_handles : (P : ℕ → Type 0) (S : List Slot) → Every (λ (s : Slot). P (handle_in s)) S
    → Every (λ (f : Feature). P f.handle) (filled S)
filled_handles P [] h = tt
filled_handles P (Filled f ∷ S) h = (h.0, filled_handles P S h.1)
filled_handles P (Empty k ∷ S) h = filled_handles P S h.1

pub filled_ascends : (S : List Slot) → AreSlots S → IsAscending (filled S)
filled_ascends [] u = tt
filled_ascends (Filled f ∷ S) u = (filled_handles (λ n. f.handle < n) S u.0, filled_ascends S u.1)
filled_ascends (Empty k ∷ S) u = filled_ascends S u.1

pub filled_most : (S : List Slot) → length (filled S) ≤ length S
filled_most [] = omega arith
filled_most (Filled f ∷ S) = omega (arith, filled_most S)
filled_most (Empty k ∷ S) = omega (arith, filled_most S)

-- ---- a slot more
pub filled_more : (S : List Slot) (i : ℕ) (s : Slot) → i < length S → s ≡ get_or S i s
    → filled (take (i + 1) S) ≡ filled (take i S) ++ option_to_list (feature_in s)
filled_more S i s l e = ap filled (take_more S i s l) ∙ (filled_append (take i S) (get_or S i s ∷ [])
    ∙ ap (λ F. filled (take i S) ++ F) (append-nil (option_to_list (feature_in (get_or S i s)))
    ∙ ap (λ t. option_to_list (feature_in t)) (sym e)))

pub filled_one : (S : List Slot) (i : ℕ) (s : Slot) (f : Feature) → i < length S → s ≡ get_or S i s → feature_in s ≡ Some f
    → filled (take (i + 1) S) ≡ filled (take i S) ++ f ∷ []
filled_one S i s f l e is = filled_more S i s l e ∙ ap (λ o. filled (take i S) ++ option_to_list o) is

pub filled_none : (S : List Slot) (i : ℕ) (s : Slot) → i < length S → s ≡ get_or S i s → feature_in s ≡ None
    → filled (take (i + 1) S) ≡ filled (take i S)
filled_none S i s l e is = filled_more S i s l e
    ∙ (ap (λ o. filled (take i S) ++ option_to_list o) is ∙ append-nil (filled (take i S)))

-- what holds of each feature so far holds with those of one slot more
pub every_filled_more : (P : Feature → Type 0) (S : List Slot) (i : ℕ) (s : Slot) → i < length S → s ≡ get_or S i s
    → Every P (filled (take i S)) → Every P (option_to_list (feature_in s)) → Every P (filled (take (i + 1) S))
every_filled_more P S i s l e h k = rw (filled_more S i s l e) (every_append P (filled (take i S)) (option_to_list (feature_in s)) h k)

pub map_filled_more : {A : Type 0} (f : Feature → A) (S : List Slot) (i : ℕ) (s : Slot) (start old new : List A) → i < length S
    → s ≡ get_or S i s → old ≡ start ++ map f (filled (take i S)) → new ≡ old ++ map f (option_to_list (feature_in s))
    → new ≡ start ++ map f (filled (take (i + 1) S))
map_filled_more f S i s start old new l e before more =
    let F = filled (take i S) in
    let one = option_to_list (feature_in s) in
    rw (filled_more S i s l e) (more ∙ (ap (λ t. t ++ map f one) before ∙ (append_assoc start (map f F) (map f one)
    ∙ ap (λ t. start ++ t) (sym (map-append f F one)))))

-- what each slot gives, one behind the other, is what each feature gives
pub flat_map_filled : {A : Type 0} (f : Feature → List A) (S : List Slot)
    → flat_map (λ s. flat_map f (option_to_list (feature_in s))) S ≡ flat_map f (filled S)
flat_map_filled f [] = refl
flat_map_filled f (s ∷ S) = ap (λ t. flat_map f (option_to_list (feature_in s)) ++ t) (flat_map_filled f S)
    ∙ sym (flat_map-append f (option_to_list (feature_in s)) (filled S))

-- ---- from the last slot down
filled_drop : (S : List Slot) (i : ℕ) (s : Slot) → i < length S → s ≡ get_or S i s
    → filled (drop i S) ≡ option_to_list (feature_in s) ++ filled (drop (i + 1) S)
filled_drop S i s l e = ap filled (drop_more S i s l) ∙ ap (λ t. option_to_list (feature_in t) ++ filled (drop (i + 1) S)) (sym e)

pub none_behind : (S : List Slot) (i : ℕ) (s : Slot) → i < length S → s ≡ get_or S i s → feature_in s ≡ None
    → filled (drop (i + 1) S) ≡ [] → filled (drop i S) ≡ []
none_behind S i s l e is none = filled_drop S i s l e ∙ (ap (λ o. option_to_list o ++ filled (drop (i + 1) S)) is ∙ none)

end_got : (F : List Feature) (f : Feature) → slice_get (F ++ f ∷ []) (length F) ≡ Some f
end_got [] f = refl
end_got (g ∷ F) f = end_got F f

pub last_filled : (S : List Slot) (i : ℕ) (s : Slot) (f : Feature) → i < length S → s ≡ get_or S i s → feature_in s ≡ Some f
    → filled (drop (i + 1) S) ≡ [] → slice_get (filled S) (length (filled S) - 1) ≡ Some f
last_filled S i s f l e is none =
    let F = filled (take i S) in
    let parts : filled S ≡ F ++ f ∷ [] = sym (ap filled (take-append-drop i S)) ∙ (filled_append (take i S) (drop i S)
    ∙ ap (λ G. F ++ G) (filled_drop S i s l e ∙ (ap (λ o. option_to_list o ++ filled (drop (i + 1) S)) is ∙ ap (λ G. f ∷ G) none))) in
    let long : length (F ++ f ∷ []) - 1 ≡ length F = omega (arith, length-append F (f ∷ [])) in
    rw parts (ap (λ n. slice_get (F ++ f ∷ []) n) long ∙ end_got F f)

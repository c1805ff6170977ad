-- Features in slots, one slot after another.
use Rattle.std.proofs.Common.{◌≡◌, ℕ, zero, suc, ◌+◌, ◌<◌, List, [], ◌∷◌, ◌++◌, length, get_or, take, map, arith, refl, sym, subst, ap, ◌∙◌, append_assoc, Option, Some, All}
use Rattle.std.specs.Option.{option_to_list}
use Rattle.std.proofs.lemmas.List.{take_more}
use Rattle.std.proofs.lemmas.List.Elements.{All-from_recursion}
use Rattle.plane_terms.specs.Lists.{Every, EveryPair}
use Rattle.plane_terms.specs.Point.{Place}
use Rattle.plane_terms.proofs.ListLemmas.{every_filter}
use Rattle.topology_terms.specs.Feature.{Feature, IsAscending}
use Rattle.cell_laws.proofs.Lists.{all_append}
use Rattle.feature_store.specs.declared.slot.Slot.{Slot}
use Rattle.feature_store.specs.Slots.{feature_in, filled}
use Rattle.fix_terms.specs.Move.{touching, has_vertex}

pub joined : {A : Type 0} (us vs ws : List A) → (us ++ vs) ++ ws ≡ us ++ (vs ++ ws)
joined us vs ws = simp append_assoc

filled_append : (xs ys : List Slot) → filled (xs ++ ys) ≡ filled xs ++ filled ys
filled_append [] ys = refl
filled_append (s ∷ xs) ys =
    ap (λ (fs : List Feature). option_to_list (feature_in s) ++ fs) (filled_append xs ys)
    ∙ sym (joined (option_to_list (feature_in s)) (filled xs) (filled ys))

filled_one : (s : Slot) → filled (s ∷ []) ≡ option_to_list (feature_in s)
filled_one s = none_more (option_to_list (feature_in s))
  where
    none_more : (fs : List Feature) → fs ++ [] ≡ fs
    none_more [] = refl
    none_more (f ∷ fs) = ap (λ (gs : List Feature). f ∷ gs) (none_more fs)

pub filled_more : (slots : List Slot) (i : ℕ) (s : Slot) → i < length slots → s ≡ get_or slots i s
    → filled (take (i + 1) slots) ≡ filled (take i slots) ++ option_to_list (feature_in s)
filled_more slots i s h e =
    ap (λ (xs : List Slot). filled xs) (take_more slots i s h ∙ ap (λ (y : Slot). take i slots ++ y ∷ []) (sym e))
    ∙ filled_append (take i slots) (s ∷ []) ∙ ap (λ (fs : List Feature). filled (take i slots) ++ fs) (filled_one s)

split_at : {A : Type 0} (xs : List A) (i : ℕ) (x : A) → i < length xs → x ≡ get_or xs i x → (rest : List A) × (xs ≡ take i xs ++ x ∷ rest)
split_at [] i x h e = absurd (omega (arith, h))
split_at (y ∷ ys) zero x h e = (ys, ap (λ (z : _). z ∷ ys) (sym e))
split_at (y ∷ ys) (suc i) x h e =
    let r = split_at ys i x (omega (arith, h)) e in
    (r.0, ap (λ (zs : List _). y ∷ zs) r.1)

-- the slots before one, that one, and those behind it
pub filled_split : (slots : List Slot) (i : ℕ) (s : Slot) → i < length slots → s ≡ get_or slots i s
    → (gs : List Feature) × (filled slots ≡ filled (take i slots) ++ (option_to_list (feature_in s) ++ gs))
filled_split slots i s h e =
    let r = split_at slots i s h e in
    (filled r.0, ap (λ (xs : List Slot). filled xs) r.1 ∙ filled_append (take i slots) (s ∷ r.0))

-- ---- handles ascend
before : {A : Type 0} (R : A → A → Type 0) (xs : List A) (y : A) (ys : List A) → EveryPair R (xs ++ y ∷ ys) → Every (λ x. R x y) xs
before R [] y ys p = tt
before R (x ∷ xs) y ys p = (((all_append (R x) xs (y ∷ ys)).0 p.0).1.0, before R xs y ys p.1)

pub all_below : (slots : List Slot) (i : ℕ) (s : Slot) (f : Feature) → i < length slots → s ≡ get_or slots i s → IsAscending (filled slots)
    → feature_in s ≡ Some f → Every (λ (g : Feature). g.handle < f.handle) (filled (take i slots))
all_below slots i s f h e a n =
    let r = filled_split slots i s h e in
    let k : filled slots ≡ filled (take i slots) ++ f ∷ r.0 =
    r.1 ∙ ap (λ (o : Option Feature). filled (take i slots) ++ (option_to_list o ++ r.0)) n in
    before (λ (x y : Feature). x.handle < y.handle) (filled (take i slots)) f r.0 (subst IsAscending k a)

pub handles_below : (place : Place) (fs : List Feature) (h : ℕ) → Every (λ (g : Feature). g.handle < h) fs
    → All (λ k. k < h) (map {A = Feature} (λ f. f.handle) (touching place fs))
handles_below place fs h u =
    All-from_recursion (λ k. k < h) (map {A = Feature} (λ f. f.handle) (touching place fs))
    (mapped (touching place fs) (every_filter (λ (g : Feature). g.handle < h) (λ (f : Feature). has_vertex place f.shape) fs u))
  where
    mapped : (gs : List Feature) → Every (λ (g : Feature). g.handle < h) gs → Every (λ k. k < h) (map {A = Feature} (λ f. f.handle) gs)
    mapped [] v = tt
    mapped (g ∷ gs) v = (v.0, mapped gs v.1)

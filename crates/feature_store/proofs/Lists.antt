-- Lists of slots in parts: before a handle, at it, after it.
use Rattle.std.proofs.Common.{ℕ, zero, suc, ◌≡◌, ◌≢◌, ◌<◌, ◌≤◌, ◌+◌, true, false, List, [], ◌∷◌, ◌++◌, length, take, drop, get_or, slice_set, ltb, drop-cons, add-one, length-append, refl, sym, ◌∙◌, ap, subst, arith, Option, Some, None}
use Rattle.std.proofs.lemmas.Bool.Decides.{nat_tests}
use Rattle.std.proofs.lemmas.Option.{slice_get-get_or}
use Rattle.std.proofs.lemmas.List.{take-append-drop}
use Rattle.std.specs.Prelude.{slice_get}
use Rattle.std.specs.Option.{option_map, option_to_list, IfSome}
use Rattle.std.specs.List.{AllWithin}
use Rattle.std.specs.List.Sorted.{IsNonDecreasingBy, IsPartitionPoint}
use Rattle.plane_terms.specs.Lists.{Every}
use Rattle.plane_terms.proofs.ListLemmas.{every_append, every_left, every_right, every_map, every_at}
use Rattle.topology_terms.specs.Feature.{Feature, by_handle, feature_at, IsSetAt}
use Rattle.sound_laws.proofs.Keyed as keyed
use Rattle.sound_laws.proofs.Keyed.{after_later}
use Rattle.sound_laws.proofs.FeatureLists.{handles}
use Rattle.feature_store.specs.declared.slot.Slot.{Slot}
use Rattle.feature_store.specs.declared.slot.Slot.TheVariants.{Filled}
use Rattle.feature_store.specs.Slots.{handle_in, feature_in, slot_of, by_slot, filled}
use Rattle.feature_store.specs.Places.{AreSlots, IsPlace, IsHere, IsGap}
use Rattle.feature_store.proofs.Filling.{slot_keys, handle_of_slot, feature_of_slot, own_feature, filled_append, filled_handles}

-- ---- the order, as std has it
pub rising : (S : List Slot) → AreSlots S → IsNonDecreasingBy handle_in S
rising [] u i j d upto short = absurd (omega arith)
rising (s ∷ S) u zero zero d upto short = omega arith
rising (s ∷ S) u zero (suc j) d upto short = let l = every_at (λ (t : Slot). handle_in s < handle_in t) S j d u.0 (omega arith) in omega arith
rising (s ∷ S) u (suc i) zero d upto short = absurd (omega arith)
rising (s ∷ S) u (suc i) (suc j) d upto short = rising S u.1 i j d (omega arith) (omega arith)

within_rest : (P : Slot → Type 0) (x : Slot) (xs : List Slot) (low high : ℕ) → AllWithin P (x ∷ xs) (suc low) (suc high)
    → AllWithin P xs low high
within_rest P x xs low high h = λ k d l u. h (suc k) d (omega arith) (omega arith)

within_front : (P : Slot → Type 0) (x : Slot) (xs : List Slot) (high : ℕ) → AllWithin P (x ∷ xs) 0 (suc high) → AllWithin P xs 0 high
within_front P x xs high h = λ k d l u. h (suc k) d (omega arith) (omega arith)

front : (t : ℕ) (S : List Slot) (i : ℕ) → AllWithin (λ (s : Slot). ltb (handle_in s) t ≡ true) S 0 i → i ≤ length S
    → Every (λ (s : Slot). handle_in s < t) (take i S)
front t [] zero h l = tt
front t [] (suc i) h l = absurd (omega arith)
front t (s ∷ S) zero h l = tt
front t (s ∷ S) (suc i) h l = let here = h 0 s (omega arith) (omega arith) in (
  grind (arith, nat_tests),
  front t S i
      (within_front (λ (r : Slot). ltb (handle_in r) t ≡ true) s S i h) (omega arith),
)

back : (t : ℕ) (S : List Slot) (i : ℕ) → AllWithin (λ (s : Slot). ltb (handle_in s) t ≡ false) S i (length S)
    → Every (λ (s : Slot). t ≤ handle_in s) (drop i S)
back t [] zero h = tt
back t [] (suc i) h = tt
back t (s ∷ S) zero h = let here = h 0 s (omega arith) (omega arith) in (
  grind (arith, nat_tests),
  back t S zero
      (within_front (λ (r : Slot). ltb (handle_in r) t ≡ false) s S (length S) h),
)
back t (s ∷ S) (suc i) h = back t S i (within_rest (λ (r : Slot). ltb (handle_in r) t ≡ false) s S i (length S) h)

pub placed : (t : ℕ) (S : List Slot) (i : ℕ) → i ≤ length S → IsPartitionPoint (λ (s : Slot). ltb (handle_in s) t ≡ true)
    (λ (s : Slot). ltb (handle_in s) t ≡ false) S i → IsPlace t S i
placed t S i within h = record { within = within; before = front t S i h.0 within; after = back t S i h.1 }

-- a slot of the handle stands at its place
pub exact : (h : ℕ) (S : List Slot) (i : ℕ) (s : Slot) → AreSlots S → i < length S → s ≡ get_or S i s → handle_in s ≡ h → IsPlace h S i
exact h [] i s u l is same = absurd (omega arith)
exact h (t ∷ S) zero s u l is same =
    let e : handle_in t ≡ h = ap handle_in (sym is) ∙ same in
    record {
      within = omega arith;
      before = tt;
      after = (omega arith, every_map (λ (r : Slot). handle_in t < handle_in r) (λ (r : Slot). h ≤ handle_in r) (λ r k. omega arith) S u.0);
    }
exact h (t ∷ S) (suc i) s u l is same =
    let p = exact h S i s u.1 (omega arith) is same in
    let below : handle_in t < handle_in (get_or S i s) = every_at (λ (r : Slot). handle_in t < handle_in r) S i s u.0 (omega arith) in
    let e : handle_in (get_or S i s) ≡ h = ap handle_in (sym is) ∙ same in
    record { within = omega (arith, p.within); before = (omega arith, p.before); after = p.after }

-- ---- what stands at a place
head_above : (h : ℕ) (s : Slot) (S : List Slot) → AreSlots (s ∷ S) → h ≤ handle_in s → handle_in s ≢ h
    → Every (λ (t : Slot). h < handle_in t) (s ∷ S)
head_above h s S u least other = let l : h < handle_in s = omega arith in (l, after_later by_slot slot_keys h (handle_in s) S l u.0)

ascending_drop : (i : ℕ) (S : List Slot) → AreSlots S → AreSlots (drop i S)
ascending_drop zero S u = u
ascending_drop (suc i) [] u = tt
ascending_drop (suc i) (s ∷ S) u = ascending_drop i S u.1

none_past : (h : ℕ) (S : List Slot) (i : ℕ) → length S ≤ i → Every (λ (t : Slot). h < handle_in t) (drop i S)
none_past h [] zero l = tt
none_past h [] (suc i) l = tt
none_past h (s ∷ S) zero l = absurd (omega arith)
none_past h (s ∷ S) (suc i) l = none_past h S i (omega arith)

pub gap_past : (h : ℕ) (S : List Slot) (i : ℕ) → IsPlace h S i → length S ≤ i → IsGap h S i
gap_past h S i p l = record { place = p; above = none_past h S i l }

pub gap_other : (h : ℕ) (S : List Slot) (i : ℕ) (s : Slot) → AreSlots S → IsPlace h S i → i < length S → s ≡ get_or S i s
    → handle_in s ≢ h → IsGap h S i
gap_other h S i s u p below is other =
    let cons : drop i S ≡ s ∷ drop (suc i) S = drop-cons S i s below ∙ ap (λ t. t ∷ drop (suc i) S) (sym is) in
    let least = subst (Every (λ (t : Slot). h ≤ handle_in t)) cons p.after in
    record {
      place = p;
      above = subst (Every (λ (t : Slot). h < handle_in t)) (sym cons)
          (head_above h s (drop (suc i) S) (subst AreSlots cons (ascending_drop i S u)) least.0 other);
    }

pub here : (h : ℕ) (S : List Slot) (i : ℕ) (s : Slot) → IsPlace h S i → i < length S → s ≡ get_or S i s → handle_in s ≡ h → IsHere h S i
here h S i s p below is same = record {
  place = p;
  slot = s;
  rest = rw add-one (drop-cons S i s below
      ∙ ap (λ t. t ∷ drop (suc i) S) (sym is));
  handle = same;
}

-- ---- a list in three parts, and the features in it
abbrev pub IsSplit : ℕ → List Slot → Option Slot → List Slot → Type 0
IsSplit h pre middle post = keyed.IsSplit by_slot slot_keys h pre middle post

abbrev pub joined : {A : Type 0} → List A → Option A → List A → List A
joined pre middle post = pre ++ (option_to_list middle ++ post)

-- the feature in the slot, where there is one
abbrev pub held : Option Slot → Option Feature
held None = None
held (Some s) = feature_in s

filled_joined : (pre post : List Slot) (m : Option Slot) → filled (joined pre m post) ≡ joined (filled pre) (held m) (filled post)
filled_joined pre post None = filled_append pre post
filled_joined pre post (Some s) = filled_append pre (s ∷ post)

filled_split : (h : ℕ) (pre post : List Slot) (m : Option Slot) → IsSplit h pre m post
    → keyed.IsSplit by_handle handles h (filled pre) (held m) (filled post)
filled_split h pre post m s = record {
  before = filled_handles (λ n. n < h) pre s.before;
  own = own m s.own;
  after = filled_handles (λ n. h < n) post s.after;
}
  where
    own : (m : Option Slot) → IfSome m (λ (s : Slot). handle_in s ≡ h) → IfSome (held m) (λ (f : Feature). f.handle ≡ h)
    own None e = tt
    own (Some s) e = own_feature h s e

stands : (h : ℕ) (pre post : List Slot) (m : Option Slot) → IsSplit h pre m post → feature_at (filled (joined pre m post)) h ≡ held m
unfolding feature_at
stands h pre post m s = ap (λ F. feature_at F h) (filled_joined pre post m)
    ∙ keyed.split_here by_handle handles h (filled pre) (held m) (filled post) (filled_split h pre post m s)

set_between : (h : ℕ) (pre post : List Slot) (m n : Option Slot) → IsSplit h pre m post → IsSplit h pre n post
    → IsSetAt h (held n) (filled (joined pre m post)) (filled (joined pre n post))
unfolding feature_at
set_between h pre post m n s t = record {
  here = stands h pre post n t;
  others = λ k other. ap (λ F. feature_at F k) (filled_joined pre post n)
      ∙ (keyed.set_other by_handle handles h (filled pre) (filled post) (held m) (held n) (filled_split h pre post m s)
      (filled_split h pre post n t) k other ∙ sym (ap (λ F. feature_at F k) (filled_joined pre post m)));
}

-- ---- the parts of a list at a place
here_list : (h : ℕ) (S : List Slot) (i : ℕ) (p : IsHere h S i) → S ≡ joined (take i S) (Some p.slot) (drop (i + 1) S)
here_list h S i p = sym (take-append-drop i S) ∙ ap (λ T. take i S ++ T) p.rest

here_split : (h : ℕ) (S : List Slot) (i : ℕ) (p : IsHere h S i) → AreSlots S → IsSplit h (take i S) (Some p.slot) (drop (i + 1) S)
here_split h S i p u =
    let v = subst AreSlots p.rest (ascending_drop i S u) in
    record {
      before = p.place.before;
      own = p.handle;
      after = subst (λ n. Every (λ (t : Slot). n < handle_in t) (drop (i + 1) S)) p.handle v.0;
    }

gap_list : (S : List Slot) (i : ℕ) → S ≡ joined (take i S) None (drop i S)
gap_list S i = sym (take-append-drop i S)

gap_split : (h : ℕ) (S : List Slot) (i : ℕ) → IsGap h S i → IsSplit h (take i S) None (drop i S)
gap_split h S i p = record { before = p.place.before; own = tt; after = p.above }

cons_within : (S : List Slot) (i : ℕ) (s : Slot) (T : List Slot) → drop i S ≡ s ∷ T → i < length S
cons_within [] zero s T e = cc
cons_within [] (suc i) s T e = cc
cons_within (x ∷ S) zero s T e = omega arith
cons_within (x ∷ S) (suc i) s T e = omega (arith, cons_within S i s T e)

pub here_within : (h : ℕ) (S : List Slot) (i : ℕ) → IsHere h S i → i < length S
here_within h S i p = cons_within S i p.slot (drop (i + 1) S) p.rest

here_same : (h : ℕ) (S : List Slot) (i : ℕ) (p : IsHere h S i) → get_or S i p.slot ≡ p.slot
here_same h S i p =
    let cons : drop i S ≡ get_or S i p.slot ∷ drop (suc i) S = drop-cons S i p.slot (here_within h S i p) in
    let both : p.slot ∷ drop (i + 1) S ≡ get_or S i p.slot ∷ drop (suc i) S = sym p.rest ∙ cons in
    cc

here_got : (h : ℕ) (S : List Slot) (i : ℕ) (p : IsHere h S i) → slice_get S i ≡ Some p.slot
here_got h S i p = slice_get-get_or S i p.slot (here_within h S i p) ∙ ap Some (here_same h S i p)

-- ---- what is found
pub found_at : (h : ℕ) (S : List Slot) (i : ℕ) (s : Slot) → IsHere h S i → AreSlots S → s ≡ get_or S i s
    → feature_at (filled S) h ≡ feature_in s
found_at h S i s p u is =
    let cons : drop i S ≡ get_or S i s ∷ drop (suc i) S = drop-cons S i s (here_within h S i p) in
    let both : p.slot ∷ drop (i + 1) S ≡ get_or S i s ∷ drop (suc i) S = sym p.rest ∙ cons in
    let same : p.slot ≡ s = cc in
    ap (λ T. feature_at (filled T) h) (here_list h S i p) ∙ (stands h (take i S) (drop (i + 1) S) (Some p.slot) (here_split h S i p u)
    ∙ ap feature_in same)

pub none_at : (h : ℕ) (S : List Slot) (i : ℕ) → IsGap h S i → feature_at (filled S) h ≡ None
none_at h S i p = ap (λ T. feature_at (filled T) h) (gap_list S i) ∙ stands h (take i S) (drop i S) None (gap_split h S i p)

-- ---- one element written
written_at : (S : List Slot) (i : ℕ) (s : Slot) → i < length S → slice_set S i s ≡ take i S ++ (s ∷ drop (suc i) S)
written_at [] i s below = absurd (omega arith)
written_at (x ∷ S) zero s below = refl
written_at (x ∷ S) (suc i) s below = ap (λ T. x ∷ T) (written_at S i s (omega arith))

pub written : (S : List Slot) (i : ℕ) (s : Slot) → i < length S → slice_set S i s ≡ take i S ++ (s ∷ drop (i + 1) S)
written S i s below = rw add-one (written_at S i s below)

-- ---- what an exchange leaves
pub record IsExchange (h : ℕ) (before after : Option Feature) (S T : List Slot) : Type 0 where
  pub set : IsSetAt h after (filled S) (filled T)
  pub stood : before ≡ feature_at (filled S) h
  pub ascending : AreSlots T
  pub below : (n : ℕ) → h < n → Every (λ (s : Slot). handle_in s < n) S → Every (λ (s : Slot). handle_in s < n) T
  pub live : length (filled T) + length (option_to_list before) ≡ length (filled S) + length (option_to_list after)

every_set : {A : Type 0} (P : A → Type 0) (pre post : List A) (before after : Option A) → Every P (joined pre before post)
    → IfSome after P → Every P (joined pre after post)
every_set {A = A} P pre post before after h k = every_append P pre (option_to_list after ++ post)
    (every_left P pre (option_to_list before ++ post) h) (new after k)
  where
    rest : Every P post
    rest = every_right P (option_to_list before) post (every_right P pre (option_to_list before ++ post) h)

    new : (a : Option A) → IfSome a P → Every P (option_to_list a ++ post)
    new None k = rest
    new (Some f) k = (k, rest)

long : (pre post : List Slot) (m : Option Slot)
    → length (filled (joined pre m post)) ≡ length (filled pre) + (length (option_to_list (held m)) + length (filled post))
long pre post m = ap length (filled_joined pre post m) ∙ (length-append (filled pre) (option_to_list (held m) ++ filled post)
    ∙ ap (λ n. length (filled pre) + n) (length-append (option_to_list (held m)) (filled post)))

below_own : (h : ℕ) (n : Option Slot) (k : ℕ) → IfSome n (λ (s : Slot). handle_in s ≡ h) → h < k
    → IfSome n (λ (s : Slot). handle_in s < k)
below_own h None k own l = tt
below_own h (Some s) k own l = omega arith

exchange_between : (h : ℕ) (pre post : List Slot) (m n : Option Slot) → IsSplit h pre m post → IsSplit h pre n post
    → AreSlots (joined pre m post) → IsExchange h (held m) (held n) (joined pre m post) (joined pre n post)
exchange_between h pre post m n s t u = record {
  set = set_between h pre post m n s t;
  stood = sym (stands h pre post m s);
  ascending = keyed.ascending_set by_slot slot_keys h pre post m n u t;
  below = λ k l each. every_set (λ (r : Slot). handle_in r < k) pre post m n each (below_own h n k t.own l);
  live = omega (arith, long pre post m, long pre post n);
}

exchange_of : (h : ℕ) (pre post : List Slot) (m n : Option Slot) (S T : List Slot) → S ≡ joined pre m post → T ≡ joined pre n post
    → IsSplit h pre m post → IsSplit h pre n post → AreSlots S → IsExchange h (held m) (held n) S T
exchange_of h pre post m n S T e g s t u =
    subst (λ R. IsExchange h (held m) (held n) R T) (sym e) (subst (λ R. IsExchange h (held m) (held n) (joined pre m post) R) (sym g)
    (exchange_between h pre post m n s t (subst AreSlots e u)))

pub exchange_here : (h : ℕ) (S T : List Slot) (i : ℕ) (before after : Option Feature) → IsHere h S i → AreSlots S
    → IfSome after (λ (f : Feature). f.handle ≡ h) → option_map feature_in (slice_get S i) ≡ Some before
    → T ≡ take i S ++ (slot_of h after ∷ drop (i + 1) S) → IsExchange h before after S T
exchange_here h S T i before after p u own is g =
    let s = here_split h S i p u in
    let there : Some (feature_in p.slot) ≡ Some before = ap (option_map feature_in) (sym (here_got h S i p)) ∙ is in
    let stood : feature_in p.slot ≡ before = cc in
    subst (λ b. IsExchange h b after S T) stood (subst (λ a. IsExchange h (feature_in p.slot) a S T) (feature_of_slot h after)
    (exchange_of h (take i S) (drop (i + 1) S) (Some p.slot) (Some (slot_of h after)) S T (here_list h S i p) g s
    (record { before = s.before; own = handle_of_slot h after own; after = s.after }) u))

-- a slot of the feature, where there is one
abbrev pub slot_with : Option Feature → Option Slot
slot_with o = option_map (λ f. Filled f) o

held_with : (o : Option Feature) → held (slot_with o) ≡ o
held_with None = refl
held_with (Some f) = refl

own_with : (h : ℕ) (o : Option Feature) → IfSome o (λ (f : Feature). f.handle ≡ h) → IfSome (slot_with o) (λ (s : Slot). handle_in s ≡ h)
own_with h None own = tt
own_with h (Some f) own = own

pub exchange_gap : (h : ℕ) (S T : List Slot) (i : ℕ) (after : Option Feature) → IsGap h S i → AreSlots S
    → IfSome after (λ (f : Feature). f.handle ≡ h) → T ≡ take i S ++ (option_to_list (slot_with after) ++ drop i S)
    → IsExchange h None after S T
exchange_gap h S T i after p u own g =
    let s = gap_split h S i p in
    subst (λ a. IsExchange h None a S T) (held_with after) (exchange_of h (take i S) (drop i S) None (slot_with after) S T (gap_list S i) g s
    (record { before = s.before; own = own_with h after own; after = s.after }) u)

-- ---- facts of each feature
each_of : (P : Feature → Type 0) (pre post : List Slot) (m n : Option Slot) (S T : List Slot) → S ≡ joined pre m post
    → T ≡ joined pre n post → Every P (filled S) → IfSome (held n) P → Every P (filled T)
each_of P pre post m n S T e g all new = subst (Every P) (sym (ap filled g ∙ filled_joined pre post n))
    (every_set P (filled pre) (filled post) (held m) (held n) (subst (Every P) (ap filled e ∙ filled_joined pre post m) all) new)

pub each_here : (P : Feature → Type 0) (h : ℕ) (S T : List Slot) (i : ℕ) (after : Option Feature) → IsHere h S i → Every P (filled S)
    → IfSome after P → T ≡ take i S ++ (slot_of h after ∷ drop (i + 1) S) → Every P (filled T)
each_here P h S T i after p all new g = each_of P (take i S) (drop (i + 1) S) (Some p.slot) (Some (slot_of h after)) S T
    (here_list h S i p) g all (subst (λ o. IfSome o P) (sym (feature_of_slot h after)) new)

pub each_gap : (P : Feature → Type 0) (S T : List Slot) (i : ℕ) (after : Option Feature) → Every P (filled S) → IfSome after P
    → T ≡ take i S ++ (option_to_list (slot_with after) ++ drop i S) → Every P (filled T)
each_gap P S T i after all new g = each_of P (take i S) (drop i S) None (slot_with after) S T (gap_list S i) g all
    (subst (λ o. IfSome o P) (sym (held_with after)) new)

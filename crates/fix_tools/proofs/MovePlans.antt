-- The plan of a move, feature by feature, and the first of its shapes that is refused.
use Rattle.std.proofs.Common.{◌≡◌, ◌≢◌, ℕ, ◌+◌, ◌<◌, Bool, true, false, cond, List, [], ◌∷◌, ◌++◌, length, get_or, map, take, refl, sym, subst, ap, ◌∙◌, inl, inr, arith, if◌then◌else◌}
use Rattle.std.specs.Prelude.{◌||◌}
use Rattle.std.specs.List.{list_any}
use Rattle.std.specs.Option.{option_to_list}
use Rattle.plane_terms.specs.Lists.{Every}
use Rattle.plane_terms.specs.Point.{Place, same_place}
use Rattle.plane_terms.specs.Shape.{Shape}
use Rattle.plane_terms.specs.ShapeFaults.{IsFlawless}
use Rattle.plane_terms.specs.declared.shape_fault.ShapeFault.{ShapeFault}
use Rattle.topology_terms.specs.Feature.{Feature}
use Rattle.cell_laws.proofs.Lists.{all_append}
use Rattle.feature_store.specs.declared.slot.Slot.{Slot}
use Rattle.feature_store.specs.Slots.{feature_in, filled}
use Rattle.fix_terms.specs.Plans.{Edit}
use Rattle.fix_terms.specs.declared.edit.Edit.TheVariants.{Put, Add}
use Rattle.fix_tools.specs.declared.fault.FixFault.{FixFault}
use Rattle.fix_tools.specs.declared.fault.FixFault.TheVariants.{NoRule, NoFeature, Nothing, Bad, Spent, NoMemory}
use Rattle.fix_terms.specs.Plans.{handles_of, shapes_of, IsFirstFault, IsBadPlan}
use Rattle.fix_terms.specs.Move.{moves, moved_shape, has_vertex, touching, may_move}
use Rattle.fix_tools.specs.Move.{IsMoveStop, IsMoveFault}
use Rattle.fix_tools.proofs.Slots.{joined, filled_more, filled_split}

moves_append : (from to : Place) (fs gs : List Feature) → moves from to (fs ++ gs) ≡ moves from to fs ++ moves from to gs
moves_append from to [] gs = refl
moves_append from to (f ∷ fs) gs = by (has_vertex from f.shape) (moves_append from to fs gs)
  where
    by : (b : Bool) → moves from to (fs ++ gs) ≡ moves from to fs ++ moves from to gs
        → (if b then Put f.handle (moved_shape from to f.shape) ∷ moves from to (fs ++ gs) else moves from to (fs ++ gs))
        ≡ (if b then Put f.handle (moved_shape from to f.shape) ∷ moves from to fs else moves from to fs) ++ moves from to gs
    by true e = ap (λ (es : List Edit). Put f.handle (moved_shape from to f.shape) ∷ es) e
    by false e = e

shapes_append : (es gs : List Edit) → shapes_of (es ++ gs) ≡ shapes_of es ++ shapes_of gs
shapes_append [] gs = refl
shapes_append (Put h s ∷ es) gs = ap (λ (ss : List Shape). s ∷ ss) (shapes_append es gs)
shapes_append (Add c t s ∷ es) gs = ap (λ (ss : List Shape). s ∷ ss) (shapes_append es gs)

moved_shapes : Place → Place → List Feature → List Shape
moved_shapes from to fs = shapes_of (moves from to fs)

shapes_more : (from to : Place) (fs gs : List Feature) → moved_shapes from to (fs ++ gs) ≡ moved_shapes from to fs ++ moved_shapes from to gs
unfolding moved_shapes
shapes_more from to fs gs =
    ap (λ (es : List Edit). shapes_of es) (moves_append from to fs gs) ∙ shapes_append (moves from to fs) (moves from to gs)

-- ---- one slot more
pub moves_more : (from to : Place) (slots : List Slot) (i : ℕ) (s : Slot) → i < length slots → s ≡ get_or slots i s
    → moves from to (filled (take (i + 1) slots)) ≡ moves from to (filled (take i slots)) ++ moves from to (option_to_list (feature_in s))
moves_more from to slots i s h e =
    ap (λ (fs : List Feature). moves from to fs) (filled_more slots i s h e)
    ∙ moves_append from to (filled (take i slots)) (option_to_list (feature_in s))

pub edits_more : (from to : Place) (slots : List Slot) (i : ℕ) (s : Slot) (old edits new : List Edit) → i < length slots → s ≡ get_or slots i s
    → edits ≡ old ++ moves from to (filled (take i slots)) → new ≡ edits ++ moves from to (option_to_list (feature_in s))
    → new ≡ old ++ moves from to (filled (take (i + 1) slots))
edits_more from to slots i s old edits new h e k n =
    n ∙ ap (λ (es : List Edit). es ++ moves from to (option_to_list (feature_in s))) k
    ∙ joined old (moves from to (filled (take i slots))) (moves from to (option_to_list (feature_in s)))
    ∙ ap (λ (es : List Edit). old ++ es) (sym (moves_more from to slots i s h e))

pub flawless_more : (from to : Place) (slots : List Slot) (i : ℕ) (s : Slot) → i < length slots → s ≡ get_or slots i s
    → Every IsFlawless (shapes_of (moves from to (filled (take i slots))))
    → Every IsFlawless (shapes_of (moves from to (option_to_list (feature_in s))))
    → Every IsFlawless (shapes_of (moves from to (filled (take (i + 1) slots))))
flawless_more from to slots i s h e a b =
    let ss = shapes_of (moves from to (filled (take i slots))) in
    let ts = shapes_of (moves from to (option_to_list (feature_in s))) in
    subst (Every IsFlawless)
    (sym (ap (λ (es : List Edit). shapes_of es) (moves_more from to slots i s h e)
    ∙ shapes_append (moves from to (filled (take i slots))) (moves from to (option_to_list (feature_in s)))))
    ((all_append IsFlawless ss ts).1 (a, b))

-- ---- the first that is refused
first_more : (ss us : List Shape) (fault : ShapeFault) → IsFirstFault ss fault → IsFirstFault (ss ++ us) fault
first_more [] us fault f = absurd f
first_more (s ∷ ss) us fault f = elim f [ inl a ↦ inl a | inr b ↦ inr (b.0, first_more ss us fault b.1) ]

first_later : (ss ts : List Shape) (fault : ShapeFault) → Every IsFlawless ss → IsFirstFault ts fault → IsFirstFault (ss ++ ts) fault
first_later [] ts fault u f = f
first_later (s ∷ ss) ts fault u f = inr (u.0, first_later ss ts fault u.1 f)

bad_slot : (from to : Place) (slots : List Slot) (i : ℕ) (s : Slot) (fault : ShapeFault) → i < length slots → s ≡ get_or slots i s
    → Every IsFlawless (shapes_of (moves from to (filled (take i slots))))
    → IsBadPlan (moves from to (option_to_list (feature_in s))) fault → IsBadPlan (moves from to (filled slots)) fault
unfolding moved_shapes
bad_slot from to slots i s fault h e u b =
    let r = filled_split slots i s h e in
    let fs = filled (take i slots) in
    let gs = option_to_list (feature_in s) in
    let all : moved_shapes from to (filled slots) ≡ moved_shapes from to fs ++ (moved_shapes from to gs ++ moved_shapes from to r.0) =
    ap (λ (hs : List Feature). moved_shapes from to hs) r.1 ∙ shapes_more from to fs (gs ++ r.0)
    ∙ ap (λ (ss : List Shape). moved_shapes from to fs ++ ss) (shapes_more from to gs r.0) in record {
      first = subst (λ (ss : List Shape). IsFirstFault ss fault) (sym all)
          (first_later (moved_shapes from to fs) (moved_shapes from to gs ++ moved_shapes from to r.0) fault u
          (first_more (moved_shapes from to gs) (moved_shapes from to r.0) fault b.first));
      other = b.other;
    }

pub stop_slot : (from to : Place) (slots : List Slot) (i : ℕ) (s : Slot) (fault : FixFault) → i < length slots → s ≡ get_or slots i s
    → Every IsFlawless (shapes_of (moves from to (filled (take i slots))))
    → IsMoveStop from to (option_to_list (feature_in s)) fault → IsMoveStop from to (filled slots) fault
stop_slot from to slots i s NoRule h e u a = a
stop_slot from to slots i s NoFeature h e u a = a
stop_slot from to slots i s Nothing h e u a = a
stop_slot from to slots i s (Bad fault) h e u a = bad_slot from to slots i s fault h e u a
stop_slot from to slots i s Spent h e u a = a
stop_slot from to slots i s NoMemory h e u a = tt

-- ---- whether there is an edit
pub plan_is : (from to : Place) (F G : List Feature) (old new : List Edit) → old ≡ [] → new ≡ old ++ moves from to F → F ≡ G
    → new ≡ moves from to G
plan_is from to F G old new e k s =
    k ∙ ap (λ (es : List Edit). es ++ moves from to F) e ∙ ap (λ (fs : List Feature). moves from to fs) s

pub none_of : (es : List Edit) → length es ≡ 0 → es ≡ []
none_of [] e = refl
none_of (d ∷ es) e = absurd (omega (arith, e))

abbrev has : Place → Feature → Bool
has from f = has_vertex from f.shape

none_moved : (from to : Place) (fs : List Feature) → moves from to fs ≡ [] → list_any (has from) fs ≡ false
none_moved from to [] e = refl
none_moved from to (f ∷ fs) e = by (has_vertex from f.shape) e (none_moved from to fs)
  where
    by : (b : Bool) → (if b then Put f.handle (moved_shape from to f.shape) ∷ moves from to fs else moves from to fs) ≡ []
        → (moves from to fs ≡ [] → list_any (has from) fs ≡ false) → (b || list_any (has from) fs) ≡ false
    by true e m = absurd (cc)
    by false e m = m e

some_moved : (from to : Place) (fs : List Feature) → moves from to fs ≢ [] → list_any (has from) fs ≡ true
some_moved from to [] n = absurd (n refl)
some_moved from to (f ∷ fs) n = by (has_vertex from f.shape) n (some_moved from to fs)
  where
    by : (b : Bool) → (if b then Put f.handle (moved_shape from to f.shape) ∷ moves from to fs else moves from to fs) ≢ []
        → (moves from to fs ≢ [] → list_any (has from) fs ≡ true) → (b || list_any (has from) fs) ≡ true
    by true n m = refl
    by false n m = m n

pub nothing_moves : (from to : Place) (fs : List Feature) → same_place to from ≡ false → moves from to fs ≡ [] → may_move from to fs ≡ false
nothing_moves from to fs a e = rw (a, none_moved from to fs e) refl

pub something_moves : (from to : Place) (fs : List Feature) → same_place to from ≡ false → moves from to fs ≢ [] → may_move from to fs ≡ true
something_moves from to fs a n = rw (a, some_moved from to fs n) refl

pub onto_itself : (from to : Place) (fs : List Feature) → same_place to from ≡ true → may_move from to fs ≡ false
onto_itself from to fs a = rw a refl

bad_moves : (from to : Place) (fs : List Feature) (fault : ShapeFault) → same_place to from ≡ false → IsBadPlan (moves from to fs) fault
    → may_move from to fs ≡ true
bad_moves from to fs fault a b =
    something_moves from to fs a (λ e. subst (λ (es : List Edit). IsFirstFault (shapes_of es) fault) e b.first)

pub stop_fault : (from to : Place) (fs : List Feature) (fault : FixFault) → same_place to from ≡ false → IsMoveStop from to fs fault
    → IsMoveFault from to fs fault
stop_fault from to fs NoRule a s = s
stop_fault from to fs NoFeature a s = s
stop_fault from to fs Nothing a s = absurd s
stop_fault from to fs (Bad fault) a s = (bad_moves from to fs fault a s, s)
stop_fault from to fs Spent a s = s
stop_fault from to fs NoMemory a s = tt

-- ---- the handles
pub put_handles : (from to : Place) (fs : List Feature) (n : ℕ)
    → map {A = Feature} (λ f. f.handle) (touching from fs) ≡ handles_of (moves from to fs) n
put_handles from to [] n = refl
put_handles from to (f ∷ fs) n = by (has_vertex from f.shape) (put_handles from to fs n)
  where
    by : (b : Bool) → map {A = Feature} (λ f. f.handle) (touching from fs) ≡ handles_of (moves from to fs) n
        → map {A = Feature} (λ f. f.handle) (cond b (f ∷ touching from fs) (touching from fs))
        ≡ handles_of (if b then Put f.handle (moved_shape from to f.shape) ∷ moves from to fs else moves from to fs) n
    by true e = ap (λ (hs : List ℕ). f.handle ∷ hs) e
    by false e = e

touching_append : (place : Place) (fs gs : List Feature) → touching place (fs ++ gs) ≡ touching place fs ++ touching place gs
touching_append place [] gs = refl
touching_append place (f ∷ fs) gs = by (has_vertex place f.shape) (touching_append place fs gs)
  where
    by : (b : Bool) → touching place (fs ++ gs) ≡ touching place fs ++ touching place gs
        → cond b (f ∷ touching place (fs ++ gs)) (touching place (fs ++ gs)) ≡ cond b (f ∷ touching place fs) (touching place fs) ++ touching place gs
    by true e = ap (λ (hs : List Feature). f ∷ hs) e
    by false e = e

map_append : (fs gs : List Feature) → map {A = Feature} (λ f. f.handle) (fs ++ gs) ≡ map {A = Feature} (λ f. f.handle) fs ++ map {A = Feature} (λ f. f.handle) gs
map_append [] gs = refl
map_append (f ∷ fs) gs = ap (λ (hs : List ℕ). f.handle ∷ hs) (map_append fs gs)

pub touched_more : (place : Place) (slots : List Slot) (i : ℕ) (s : Slot) (old new : List ℕ) → i < length slots → s ≡ get_or slots i s
    → old ≡ map {A = Feature} (λ f. f.handle) (touching place (filled (take i slots)))
    → new ≡ old ++ map {A = Feature} (λ f. f.handle) (touching place (option_to_list (feature_in s)))
    → new ≡ map {A = Feature} (λ f. f.handle) (touching place (filled (take (i + 1) slots)))
touched_more place slots i s old new h e k n =
    n ∙ ap (λ (hs : List ℕ). hs ++ map {A = Feature} (λ f. f.handle) (touching place (option_to_list (feature_in s)))) k
    ∙ sym (map_append (touching place (filled (take i slots))) (touching place (option_to_list (feature_in s))))
    ∙ ap (λ (fs : List Feature). map {A = Feature} (λ f. f.handle) fs)
    (sym (ap (λ (fs : List Feature). touching place fs) (filled_more slots i s h e)
    ∙ touching_append place (filled (take i slots)) (option_to_list (feature_in s))))

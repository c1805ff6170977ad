-- Lists of nodes that stay parts of squares, no two in one: one changes, one comes, some go.
use Rattle.std.proofs.Common.{◌≡◌, ◌≢◌, inl, inr, refl, sym, ap, ◌∙◌, subst, ℕ, zero, suc, ◌+◌, ◌<◌, ◌≤◌, Bool, true, false, ◌||◌, List, [], ◌∷◌, ◌++◌, Contains, length, take, set, get_or, Option, None, Some, Result, Ok, Err, arith}
use Rattle.std.specs.Prelude.{slice_get, IsSomeAnd, IsTrue, ◌↔◌, OnOk, OnErr}
use Rattle.std.specs.List.{items_where_true, IsDistinct}
use Rattle.std.specs.List.Retain.{IsFiltered, ReturnsInTurn}
use Rattle.std.proofs.lemmas.Bool.{false≢true}
use Rattle.std.proofs.lemmas.List.{length-append, take_more_set}
use Rattle.std.proofs.lemmas.List.Elements.{Contains-append_right, Contains-append_cases}
use Rattle.std.proofs.lemmas.Option.{slice_get_within, slice_get-get_or, get_or_from_slice_get}
use Rattle.plane_terms.specs.Lists.{Every, SomeOf}
use Rattle.plane_terms.proofs.ListLemmas.{SomeOf-append_left, SomeOf-append_right, every_append, every_map, every_at}
use Rattle.grid_index.specs.declared.placed.Placed.{Placed}
use Rattle.grid_index.specs.declared.middle.Middle.{Middle}
use Rattle.grid_index.specs.Middles.{middle_of}
use Rattle.grid_index.specs.Nodes.{NodeView}
use Rattle.grid_index.specs.Squares.{same_square, IsOnGrid, IsPart, AreInSquare, AreParts, AreAround, AreOutside, IsDivided, IsLeft, IsLeftAs, AreLeftAs, IsSingle, IsAdded, IsPushedAt, IsPutAt, StaysPart, StayAround, MayTake, IsGathered, AreGathered, middles_of}
use Rattle.grid_index.proofs.Members.{among}
use Rattle.grid_index.proofs.Squares.{square_of_same, square_back, square_on, square_other, apart_back, square_wider}

pub on_ok_all : {T E P Q R S : Type 0} (r : Result T E) → (P → Q → R → S) → OnOk r P → OnOk r Q → OnOk r R → OnOk r S
on_ok_all (Ok x) f p q r = f p q r
on_ok_all (Err e) f p q r = tt

-- ---- the element at a place
pub some_is : {A : Type 0} (xs : List A) (i : ℕ) (d : A) (P : A → Type 0) → IsSomeAnd (slice_get xs i) P → (i < length xs) × P (get_or xs i d)
some_is {A} xs i d P h = by (slice_get xs i) refl h
  where
    by : (o : Option A) → slice_get xs i ≡ o → IsSomeAnd o P → (i < length xs) × P (get_or xs i d)
    by None e k = absurd k
    by (Some x) e k = (slice_get_within xs i x e, subst P (sym (get_or_from_slice_get xs i x d e)) k)

pub is_some : {A : Type 0} (xs : List A) (i : ℕ) (d : A) (P : A → Type 0) → i < length xs → P (get_or xs i d) → IsSomeAnd (slice_get xs i) P
is_some xs i d P h p = subst (λ o. IsSomeAnd o P) (sym (slice_get-get_or xs i d h)) p

pub some_every : {A : Type 0} (xs : List A) (i : ℕ) (P Q R : A → Type 0) → Every P xs → ((x : A) → P x → Q x → R x) → IsSomeAnd (slice_get xs i) Q
    → IsSomeAnd (slice_get xs i) R
some_every {A} xs i P Q R all f h = by (slice_get xs i) refl h
  where
    by : (o : Option A) → slice_get xs i ≡ o → IsSomeAnd o Q → IsSomeAnd o R
    by None e k = absurd k
    by (Some x) e k = f x (subst P (get_or_from_slice_get xs i x x e) (every_at P xs i x all (slice_get_within xs i x e))) k

pub every_set : {A : Type 0} (P : A → Type 0) (xs : List A) (i : ℕ) (y : A) → Every P xs → P y → Every P (set xs i y)
every_set P [] i y h p = tt
every_set P (x ∷ xs) zero y h p = (p, h.1)
every_set P (x ∷ xs) (suc i) y h p = (h.0, every_set P xs i y h.1 p)

-- the elements before i have it, and now the one at i
pub every_more_set : {A : Type 0} (P : A → Type 0) (xs : List A) (i : ℕ) (y : A) → i < length xs → Every P (take i xs) → P y
    → Every P (take (i + 1) (set xs i y))
every_more_set P xs i y l h p = subst (Every P) (sym (take_more_set xs i y l)) (every_append P (take i xs) (y ∷ []) h (p, tt))

-- one of the elements before i has it, or now the one at i
some_more_set : {A : Type 0} (P : A → Type 0) (xs : List A) (i : ℕ) (y : A) → i < length xs → SomeOf P (take i xs) → SomeOf P (take (i + 1) (set xs i y))
some_more_set P xs i y l h = subst (SomeOf P) (sym (take_more_set xs i y l)) (SomeOf-append_left P (take i xs) (y ∷ []) h)

some_here_set : {A : Type 0} (P : A → Type 0) (xs : List A) (i : ℕ) (y : A) → i < length xs → P y → SomeOf P (take (i + 1) (set xs i y))
some_here_set P xs i y l p = subst (SomeOf P) (sym (take_more_set xs i y l)) (SomeOf-append_right P (take i xs) (y ∷ []) (inl p))

-- ---- no two in one square
outside_set : (k : ℕ) (m : Middle) (ns : List NodeView) (i : ℕ) (d o : NodeView) → i < length ns
    → same_square k (get_or ns i d).middle o.middle ≡ true → AreOutside k m ns → AreOutside k m (set ns i o)
outside_set k m [] i d o l s h = absurd (omega (arith, l))
outside_set k m (n ∷ ns) zero d o l s h = (apart_back k o.middle m (square_other k n.middle o.middle m s (apart_back k m n.middle h.0)), h.1)
outside_set k m (n ∷ ns) (suc i) d o l s h = (h.0, outside_set k m ns i d o (omega (arith, l)) s h.1)

outside_middles : (k : ℕ) (m : Middle) (ns : List NodeView) → Every (λ a. same_square k m a ≡ false) (middles_of ns) → AreOutside k m ns
outside_middles k m [] h = tt
outside_middles k m (n ∷ ns) h = (h.0, outside_middles k m ns h.1)

middles_outside : (k : ℕ) (m : Middle) (ns : List NodeView) → AreOutside k m ns → Every (λ a. same_square k m a ≡ false) (middles_of ns)
middles_outside k m [] h = tt
middles_outside k m (n ∷ ns) h = (h.0, middles_outside k m ns h.1)

outside_beside : (k : ℕ) (a b : Middle) (ns : List NodeView) → same_square k a b ≡ true → AreOutside k a ns → AreOutside k b ns
outside_beside k a b [] s h = tt
outside_beside k a b (n ∷ ns) s h = (square_other k a b n.middle s h.0, outside_beside k a b ns s h.1)

pub distinct_none : (k : ℕ) → IsDistinct (same_square k) (middles_of [])
unfolding IsDistinct
distinct_none k = tt

pub distinct_set : (k : ℕ) (ns : List NodeView) (i : ℕ) (d o : NodeView) → i < length ns → same_square k (get_or ns i d).middle o.middle ≡ true
    → IsDistinct (same_square k) (middles_of ns) → IsDistinct (same_square k) (middles_of (set ns i o))
unfolding IsDistinct
distinct_set k [] i d o l s h = absurd (omega (arith, l))
distinct_set k (n ∷ ns) zero d o l s h = (
  middles_outside k o.middle ns (outside_beside k n.middle o.middle ns s (outside_middles k n.middle ns h.0)),
  h.1,
)
distinct_set k (n ∷ ns) (suc i) d o l s h = (
  middles_outside k n.middle (set ns i o) (outside_set k n.middle ns i d o (omega (arith, l)) s (outside_middles k n.middle ns h.0)),
  distinct_set k ns i d o (omega (arith, l)) s h.1,
)

pub distinct_added : (k : ℕ) (ns : List NodeView) (n : NodeView) → AreOutside k n.middle ns → IsDistinct (same_square k) (middles_of ns)
    → IsDistinct (same_square k) (middles_of (ns ++ n ∷ []))
unfolding IsDistinct
distinct_added k [] n out h = (tt, tt)
distinct_added k (m ∷ ms) n out h = (
  middles_outside k m.middle (ms ++ n ∷ []) (every_append (λ (o : NodeView). same_square k m.middle o.middle ≡ false) ms (n ∷ [])
      (outside_middles k m.middle ms h.0) (apart_back k n.middle m.middle out.0, tt)),
  distinct_added k ms n out.1 h.1,
)

pub none_divided : (m : Middle) (k : ℕ) (ps : List Placed) (ns : List NodeView) → ns ≡ [] → IsDivided m k ps ns
none_divided m k ps ns e = subst (IsDivided m k ps) (sym e) (((tt, distinct_none k), tt), inl refl)

-- ---- one node in place of another
pub parts_set : (k : ℕ) (ns : List NodeView) (i : ℕ) (d o : NodeView) → i < length ns → AreParts k ns → IsPart k o
    → same_square k (get_or ns i d).middle o.middle ≡ true → AreParts k (set ns i o)
parts_set k ns i d o l h p s = (every_set (IsPart k) ns i o h.0 p, distinct_set k ns i d o l s h.1)

pub around_set : (k : ℕ) (m : Middle) (ns : List NodeView) (i : ℕ) (d o : NodeView) → i < length ns → AreAround k m ns
    → same_square k (get_or ns i d).middle o.middle ≡ true → AreAround k m (set ns i o)
around_set k m ns i d o l h s = every_set (λ (n : NodeView). same_square k m n.middle ≡ true) ns i o h
    (square_on k m (get_or ns i d).middle o.middle (every_at (λ (n : NodeView). same_square k m n.middle ≡ true) ns i d h l) s)

pub middles_set : (ns : List NodeView) (i : ℕ) (d o : NodeView) → i < length ns → o.middle ≡ (get_or ns i d).middle → middles_of (set ns i o) ≡ middles_of ns
middles_set [] i d o l e = absurd (omega (arith, l))
middles_set (n ∷ ns) zero d o l e = ap (λ a. a ∷ middles_of ns) e
middles_set (n ∷ ns) (suc i) d o l e = ap (λ ms. n.middle ∷ ms) (middles_set ns i d o (omega (arith, l)) e)

around_middles : (k : ℕ) (m : Middle) (ns : List NodeView) → Every (λ a. same_square k m a ≡ true) (middles_of ns) → AreAround k m ns
around_middles k m [] h = tt
around_middles k m (n ∷ ns) h = (h.0, around_middles k m ns h.1)

middles_around : (k : ℕ) (m : Middle) (ns : List NodeView) → AreAround k m ns → Every (λ a. same_square k m a ≡ true) (middles_of ns)
middles_around k m [] h = tt
middles_around k m (n ∷ ns) h = (h.0, middles_around k m ns h.1)

pub around_moved : (k : ℕ) (m : Middle) (ns os : List NodeView) → middles_of os ≡ middles_of ns → AreAround k m ns → AreAround k m os
around_moved k m ns os e h = around_middles k m os (subst (Every (λ a. same_square k m a ≡ true)) (sym e) (middles_around k m ns h))

-- ---- a leaf with one rectangle
one_item : (p : Placed) (ps : List Placed) → ps ≡ p ∷ [] → (q : Placed) → Contains ps q → q ≡ p
one_item p ps e q h = elim (among (p ∷ []) q (subst (λ l. Contains l q) e h)) [ inl s ↦ s | inr k ↦ absurd k ]

has_item : (p : Placed) (ps : List Placed) → ps ≡ p ∷ [] → Contains ps p
has_item p ps e = subst (λ l. Contains l p) (sym e) (0, omega arith, refl)

none_has : {A : Type 0} (xs : List A) (x : A) → Contains xs x → xs ≢ []
none_has {A} xs x h e = absurd (omega (arith, h.1, ap length e))

single_inside : (k : ℕ) (p : Placed) (n : NodeView) → IsSingle p n → AreInSquare k n.middle n.items
single_inside k p n s q h = square_of_same k n.middle (middle_of q.rect)
    (s.middle ∙ ap (λ (o : Placed). middle_of o.rect) (sym (one_item p n.items s.items q h)))

pub single_part : (k : ℕ) (p : Placed) (n : NodeView) → k ≤ 32 → IsSingle p n → IsPart k n
single_part k p n l s = record {
  low = l;
  filled = none_has n.items p (has_item p n.items s.items);
  on_grid = s.on_grid;
  inside = single_inside k p n s;
  few = λ h. inl (omega (arith, l, ap length s.items));
  smaller = λ h. absurd (h s.leaf);
}

pub parts_added : (k : ℕ) (ns os : List NodeView) (p : Placed) (m : Middle) → k ≤ 32 → m ≡ middle_of p.rect → AreOutside k m ns → AreParts k ns
    → IsAdded ns os p → AreParts k os
parts_added k ns os p m l e out h a =
    let n = a.0 in
    subst (AreParts k) (sym a.1) (
      every_append (IsPart k) ns (n ∷ []) h.0 (single_part k p n l a.2, tt),
      distinct_added k ns n (subst (λ b. AreOutside k b ns) (e ∙ sym a.2.middle) out) h.1,
    )

pub around_added : (k : ℕ) (ns os : List NodeView) (p : Placed) (m : Middle) → m ≡ middle_of p.rect → IsAdded ns os p → StayAround k ns os m
around_added k ns os p m e d a s h = subst (AreAround k a) (sym d.1)
    (every_append (λ (n : NodeView). same_square k a n.middle ≡ true) ns (d.0 ∷ []) h (subst (λ b. same_square k a b ≡ true) (e ∙ sym d.2.middle) s, tt))

-- ---- leaves that are being filled
pub gathered_part : (k c : ℕ) (p : Placed) (n : NodeView) → IsSingle p n → IsGathered k (c + 1) n
gathered_part k c p n s = record {
  first = (p, has_item p n.items s.items, s.middle);
  on_grid = s.on_grid;
  inside = single_inside k p n s;
  leaf = s.leaf;
  few = omega (arith, ap length s.items);
}

gathered_more : (k c : ℕ) (n : NodeView) → IsGathered k c n → IsGathered k (c + 1) n
gathered_more k c n g = record { first = g.first; on_grid = g.on_grid; inside = g.inside; leaf = g.leaf; few = omega (arith, g.few) }

pub gathered_added : (k c : ℕ) (ns os : List NodeView) (p : Placed) (m : Middle) → m ≡ middle_of p.rect → AreOutside k m ns → IsAdded ns os p
    → AreGathered k c ns → AreGathered k (c + 1) os
gathered_added k c ns os p m e out a h =
    let n = a.0 in
    subst (AreGathered k (c + 1)) (sym a.1) (
      every_append (IsGathered k (c + 1)) ns (n ∷ []) (every_map (IsGathered k c) (IsGathered k (c + 1)) (gathered_more k c) ns h.0)
          (gathered_part k c p n a.2, tt),
      distinct_added k ns n (subst (λ b. AreOutside k b ns) (e ∙ sym a.2.middle) out) h.1,
    )

pub pushed_inside : (k : ℕ) (n o : NodeView) (p : Placed) → AreInSquare k n.middle n.items → same_square k n.middle (middle_of p.rect) ≡ true
    → o.items ≡ n.items ++ p ∷ [] → o.middle ≡ middle_of p.rect → AreInSquare k o.middle o.items
pushed_inside k n o p all s items middle q h = subst (λ b. same_square k b (middle_of q.rect) ≡ true) (sym middle)
    (elim (Contains-append_cases n.items (p ∷ []) q (subst (λ l. Contains l q) items h)) [
      | inl j ↦ square_on k (middle_of p.rect) n.middle (middle_of q.rect) (square_back k n.middle (middle_of p.rect) s) (all q j)
      | inr j ↦ square_of_same k (middle_of p.rect) (middle_of q.rect) (ap (λ (r : Placed). middle_of r.rect) (sym (one_item p (p ∷ []) refl q j)))
    ])

gathered_pushed : (k c : ℕ) (n o : NodeView) (p : Placed) (m : Middle) → m ≡ middle_of p.rect → IsOnGrid m → same_square k m n.middle ≡ true
    → o.items ≡ n.items ++ p ∷ [] → o.middle ≡ m → o.height ≡ 0 → IsGathered k c n → IsGathered k (c + 1) o
gathered_pushed k c n o p m e on s items middle leaf g = record {
  first = (p, subst (λ l. Contains l p) (sym items) (Contains-append_right n.items (p ∷ []) p (has_item p (p ∷ []) refl)), middle ∙ e);
  on_grid = subst IsOnGrid (sym middle) on;
  inside = pushed_inside k n o p g.inside (subst (λ b. same_square k n.middle b ≡ true) e (square_back k m n.middle s)) items (middle ∙ e);
  leaf = leaf;
  few = omega (arith, ap length items, length-append n.items (p ∷ []), g.few);
}

pub gathered_at : (k c : ℕ) (ns : List NodeView) (i : ℕ) (os : List NodeView) (p : Placed) (m : Middle) → m ≡ middle_of p.rect → IsOnGrid m
    → IsSomeAnd (slice_get ns i) (λ (n : NodeView). same_square k m n.middle ≡ true) → IsPushedAt ns i os p m → AreGathered k c ns
    → AreGathered k (c + 1) os
gathered_at k c ns i os p m e on s pushed h = by (slice_get ns i) refl s pushed
  where
    by : (u : Option NodeView) → slice_get ns i ≡ u → IsSomeAnd u (λ (n : NodeView). same_square k m n.middle ≡ true)
        → IsSomeAnd u (λ (n : NodeView). (o : NodeView) × (os ≡ set ns i o) × (o.items ≡ n.items ++ p ∷ []) × (o.middle ≡ m) × (o.height ≡ 0))
        → AreGathered k (c + 1) os
    by None f t w = absurd t
    by (Some n) f t w =
        let o = w.0 in
        let l = slice_get_within ns i n f in
        let was : get_or ns i n ≡ n = get_or_from_slice_get ns i n n f in
        let g : IsGathered k c n = subst (IsGathered k c) was (every_at (IsGathered k c) ns i n h.0 l) in
        let beside : same_square k (get_or ns i n).middle o.middle ≡ true =
        subst (λ (v : NodeView). same_square k v.middle o.middle ≡ true) (sym was)
        (subst (λ b. same_square k n.middle b ≡ true) (sym w.3) (square_back k m n.middle t)) in
        subst (AreGathered k (c + 1)) (sym w.1) (
          every_set (IsGathered k (c + 1)) ns i o (every_map (IsGathered k c) (IsGathered k (c + 1)) (gathered_more k c) ns h.0)
              (gathered_pushed k c n o p m e on t w.2 w.3 w.4 g),
          distinct_set k ns i n o l beside h.1,
        )

pub leaf_at : (k c : ℕ) (m : Middle) (ns : List NodeView) (i : ℕ) → AreGathered k c ns
    → IsSomeAnd (slice_get ns i) (λ (n : NodeView). same_square k m n.middle ≡ true)
    → IsSomeAnd (slice_get ns i) (λ (n : NodeView). (n.height ≡ 0) × (n.items ≢ []))
leaf_at k c m ns i h s = some_every ns i (IsGathered k c) (λ (n : NodeView). same_square k m n.middle ≡ true)
    (λ (n : NodeView). (n.height ≡ 0) × (n.items ≢ [])) h.0 (λ n g t. (g.leaf, none_has n.items g.first.0 g.first.1)) s

pub pushed_at : (ns : List NodeView) (i : ℕ) (n o : NodeView) (p : Placed) (m : Middle) → i < length ns → n ≡ get_or ns i n
    → o.items ≡ n.items ++ p ∷ [] → o.middle ≡ m → o.height ≡ 0 → IsPushedAt ns i (set ns i o) p m
pushed_at ns i n o p m l is items middle leaf = is_some ns i n
    (λ (v : NodeView). (w : NodeView) × (set ns i o ≡ set ns i w) × (w.items ≡ v.items ++ p ∷ []) × (w.middle ≡ m) × (w.height ≡ 0)) l
    (o, refl, subst (λ (v : NodeView). o.items ≡ v.items ++ p ∷ []) is items, middle, leaf)

-- ---- one of the nodes takes a rectangle
pub may_take : (k : ℕ) (m : Middle) (ns : List NodeView) (i : ℕ) → AreParts k ns
    → IsSomeAnd (slice_get ns i) (λ (n : NodeView). same_square k m n.middle ≡ true) → IsSomeAnd (slice_get ns i) (λ (n : NodeView). MayTake n m)
may_take k m ns i h s = some_every ns i (IsPart k) (λ (n : NodeView). same_square k m n.middle ≡ true) (λ (n : NodeView). MayTake n m) h.0
    (λ n part t. (k, part, square_back k m n.middle t)) s

stays_at : (k : ℕ) (m : Middle) (ns : List NodeView) (i : ℕ) (os : List NodeView) → AreParts k ns
    → IsSomeAnd (slice_get ns i) (λ (n : NodeView). same_square k m n.middle ≡ true) → IsPutAt ns i os m
    → (n : NodeView) × (o : NodeView) × (i < length ns) × (os ≡ set ns i o) × IsPart k o × (same_square k (get_or ns i n).middle o.middle ≡ true)
stays_at k m ns i os h s put = by (slice_get ns i) refl s put
  where
    by : (u : Option NodeView) → slice_get ns i ≡ u → IsSomeAnd u (λ (n : NodeView). same_square k m n.middle ≡ true)
        → IsSomeAnd u (λ (n : NodeView). (o : NodeView) × (os ≡ set ns i o) × StaysPart n o m)
        → (n : NodeView) × (o : NodeView) × (i < length ns) × (os ≡ set ns i o) × IsPart k o × (same_square k (get_or ns i n).middle o.middle ≡ true)
    by None f t w = absurd t
    by (Some n) f t w =
        let l = slice_get_within ns i n f in
        let was : get_or ns i n ≡ n = get_or_from_slice_get ns i n n f in
        let part : IsPart k n = subst (IsPart k) was (every_at (IsPart k) ns i n h.0 l) in
        let stays = w.2 k part (square_back k m n.middle t) in
        (n, w.0, l, w.1, stays.0, subst (λ (v : NodeView). same_square k v.middle (w.0).middle ≡ true) (sym was) stays.1)

pub parts_put : (k : ℕ) (m : Middle) (ns : List NodeView) (i : ℕ) (os : List NodeView) → AreParts k ns
    → IsSomeAnd (slice_get ns i) (λ (n : NodeView). same_square k m n.middle ≡ true) → IsPutAt ns i os m → AreParts k os
parts_put k m ns i os h s put =
    let w = stays_at k m ns i os h s put in
    subst (AreParts k) (sym w.3) (parts_set k ns i w.0 w.1 w.2 h w.4 w.5)

pub around_put : (k : ℕ) (m : Middle) (ns : List NodeView) (i : ℕ) (os : List NodeView) → AreParts k ns
    → IsSomeAnd (slice_get ns i) (λ (n : NodeView). same_square k m n.middle ≡ true) → IsPutAt ns i os m → StayAround (k + 1) ns os m
around_put k m ns i os h s put a t around =
    let w = stays_at k m ns i os h s put in
    subst (AreAround (k + 1) a) (sym w.3) (around_set (k + 1) a ns i w.0 w.1 w.2 around
    (square_wider k (k + 1) (get_or ns i w.0).middle (w.1).middle (omega arith) w.5))

-- ---- the nodes that hold nothing go
outside_kept : (k : ℕ) (m : Middle) (bs : List Bool) (ns : List NodeView) → AreOutside k m ns → AreOutside k m (items_where_true bs ns)
outside_kept k m [] ns h = tt
outside_kept k m (b ∷ bs) [] h = tt
outside_kept k m (true ∷ bs) (n ∷ ns) h = (h.0, outside_kept k m bs ns h.1)
outside_kept k m (false ∷ bs) (n ∷ ns) h = outside_kept k m bs ns h.1

distinct_kept : (k : ℕ) (bs : List Bool) (ns : List NodeView) → IsDistinct (same_square k) (middles_of ns)
    → IsDistinct (same_square k) (middles_of (items_where_true bs ns))
unfolding IsDistinct
distinct_kept k [] ns h = tt
distinct_kept k (b ∷ bs) [] h = tt
distinct_kept k (true ∷ bs) (n ∷ ns) h = (
  middles_outside k n.middle (items_where_true bs ns) (outside_kept k n.middle bs ns (outside_middles k n.middle ns h.0)),
  distinct_kept k bs ns h.1,
)
distinct_kept k (false ∷ bs) (n ∷ ns) h = distinct_kept k bs ns h.1

around_kept : (k : ℕ) (m : Middle) (bs : List Bool) (ns : List NodeView) → AreAround k m ns → AreAround k m (items_where_true bs ns)
around_kept k m [] ns h = tt
around_kept k m (b ∷ bs) [] h = tt
around_kept k m (true ∷ bs) (n ∷ ns) h = (h.0, around_kept k m bs ns h.1)
around_kept k m (false ∷ bs) (n ∷ ns) h = around_kept k m bs ns h.1

part_left : (k : ℕ) (n : NodeView) → n.items ≢ [] → IsLeft k n → IsPart k n
part_left k n some (inl none) = absurd (some none)
part_left k n some (inr part) = part

-- a node that is left, where a test tells whether it holds nothing
pub left_as : (b : Bool) (k : ℕ) (n : NodeView) → (IsTrue b ↔ (n.items ≡ [])) → IsLeft k n → IsLeftAs b k n
left_as true k n told left = told.0 refl
left_as false k n told left = part_left k n (λ none. absurd (false≢true (told.1 none))) left

-- one node more, which holds nothing or is a part as a test tells
pub left_more : (k : ℕ) (b c : Bool) (ns : List NodeView) (i : ℕ) (o : NodeView) → i < length ns → AreLeftAs b k (take i ns) → IsLeftAs c k o
    → AreLeftAs (c || b) k (take (i + 1) (set ns i o))
left_more k true true ns i o l h p = (every_more_set (IsLeft k) ns i o l h.0 (inl p), some_more_set (λ n. n.items ≡ []) ns i o l h.1)
left_more k true false ns i o l h p = (every_more_set (IsLeft k) ns i o l h.0 (inr p), some_more_set (λ n. n.items ≡ []) ns i o l h.1)
left_more k false true ns i o l h p = (
  every_more_set (IsLeft k) ns i o l (every_map (IsPart k) (IsLeft k) (λ n q. inr q) (take i ns) h) (inl p),
  some_here_set (λ n. n.items ≡ []) ns i o l p,
)
left_more k false false ns i o l h p = every_more_set (IsPart k) ns i o l h p

parts_kept : {F : Type 0} (R : F → NodeView → Bool → F → Type 0) → ((f : F) (n : NodeView) (b : Bool) (g : F) → R f n b g → b ≡ true → n.items ≢ [])
    → (k : ℕ) (bs : List Bool) (f : F) (ns : List NodeView) (g : F) → ReturnsInTurn R f bs ns g → Every (IsLeft k) ns
    → Every (IsPart k) (items_where_true bs ns)
parts_kept R says k [] f ns g t h = tt
parts_kept R says k (b ∷ bs) f [] g t h = tt
parts_kept R says k (true ∷ bs) f (n ∷ ns) g t h = (part_left k n (says f n true t.0 t.1 refl) h.0, parts_kept R says k bs t.0 ns g t.2 h.1)
parts_kept R says k (false ∷ bs) f (n ∷ ns) g t h = parts_kept R says k bs t.0 ns g t.2 h.1

pub parts_left : {F : Type 0} (R : F → NodeView → Bool → F → Type 0) → ((f : F) (n : NodeView) (b : Bool) (g : F) → R f n b g → b ≡ true → n.items ≢ [])
    → (f : F) (ns os : List NodeView) → IsFiltered R f ns os
    → (k : ℕ) → Every (IsLeft k) ns → IsDistinct (same_square k) (middles_of ns) → AreParts k os
parts_left R says f ns os h k left distinct = subst (AreParts k) (sym h.4)
    (parts_kept R says k h.0 f ns h.1 h.3 left, distinct_kept k h.0 ns distinct)

pub around_left : {F : Type 0} (R : F → NodeView → Bool → F → Type 0) (f : F) (ns os : List NodeView) → IsFiltered R f ns os
    → (k : ℕ) (m : Middle) → AreAround k m ns → AreAround k m os
around_left R f ns os h k m around = subst (AreAround k m) (sym h.4) (around_kept k m h.0 ns around)

-- ---- one node more, or none where memory is out
pub parts_through : {T E : Type 0} (r : Result T E) (k : ℕ) (ns os : List NodeView) (p : Placed) (m : Middle) → k ≤ 32 → m ≡ middle_of p.rect
    → AreOutside k m ns → AreParts k ns → OnOk r (IsAdded ns os p) → OnErr r (os ≡ ns) → AreParts k os
parts_through (Ok x) k ns os p m l e out h added err = parts_added k ns os p m l e out h added
parts_through (Err x) k ns os p m l e out h added err = subst (AreParts k) (sym err) h

pub around_through : {T E : Type 0} (r : Result T E) (k : ℕ) (ns os : List NodeView) (p : Placed) (m : Middle) → m ≡ middle_of p.rect
    → OnOk r (IsAdded ns os p) → OnErr r (os ≡ ns) → StayAround k ns os m
around_through (Ok x) k ns os p m e added err = around_added k ns os p m e added
around_through (Err x) k ns os p m e added err = λ a t around. subst (AreAround k a) (sym err) around

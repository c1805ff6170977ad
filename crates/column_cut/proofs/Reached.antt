-- What is made of the segments that reach a stretch of columns is what is made of all; and strips are made part by part.
use Rattle.std.proofs.Common.{◌≡◌, ◌∙◌, ℤ, ◌≤ℤ◌, ◌<ℤ◌, Bool, true, false, cond, ◌&&◌, ◌||◌, int_le, arith, sym, ap, refl, ◌⊎◌, inl, inr}
use Rattle.std.proofs.Common.{List, [], ◌∷◌, ◌++◌, append_assoc, Option, Some, None}
use Rattle.std.specs.Prelude.{Result, Ok, Err, OnOk}
use Rattle.std.specs.List.{filter}
use Rattle.std.proofs.lemmas.Int.{ints}
use Rattle.std.proofs.lemmas.Bool.{false≢true}
use Rattle.std.proofs.lemmas.List.Elements.{filter-append}
use Rattle.plane_terms.specs.Segment.{Segment}
use Rattle.plane_terms.specs.Cell.{Cell}
use Rattle.plane_terms.specs.Carve.{kept}
use Rattle.plane_terms.specs.Decide.{has_point}
use Rattle.plane_terms.specs.Columns.{column, place, slots, ordinates, is_covered, intervals, on_wall, wall, in_column, cells_from, last}
use Rattle.plane_terms.specs.Columns.{put}
use Rattle.cell_laws.proofs.Lists.{all_append}
use Rattle.column_laws.specs.Rising.{IsRising}
use Rattle.column_cut.specs.Strips.{strips, reaches}

-- ---- rising lists and their parts
last_least : (x : ℤ) (xs : List ℤ) → IsRising (x ∷ xs) → x ≤ℤ last x xs
last_least x [] h = omega (arith, ints)
last_least x (y ∷ ys) h = omega (arith, ints, h.0.0, last_least y ys h.1)

pub rising_front : (x : ℤ) (ys zs : List ℤ) → IsRising (x ∷ ys ++ zs) → IsRising (x ∷ ys)
rising_front x [] zs h = (tt, tt)
rising_front x (y ∷ ys) zs h = (((all_append (λ v. x <ℤ v) (y ∷ ys) zs).0 h.0).0, rising_front y ys zs h.1)

pub rising_back : (x : ℤ) (ys zs : List ℤ) → IsRising (x ∷ ys ++ zs) → IsRising (last x ys ∷ zs)
rising_back x [] zs h = h
rising_back x (y ∷ ys) zs h = rising_back y ys zs h.1

and_false : (a b : Bool) → (a ≡ true → b ≡ true → ⊥) → (a && b) ≡ false
and_false false b f = refl
and_false true false f = refl
and_false true true f = absurd (f refl refl)

-- ---- of the segments that reach what lies from x to y
module _ (x y : ℤ) where
  abbrev near : List Segment → List Segment
  near ss = filter (reaches x y) ss

  -- the others have both ends right of it, or both left of it
  beside : (s : Segment) → reaches x y s ≡ false → ((y <ℤ s.lo.x) × (y <ℤ s.hi.x)) ⊎ ((s.lo.x <ℤ x) × (s.hi.x <ℤ x))
  beside s e = by_tests (int_le s.lo.x y) (int_le s.hi.x y) (int_le x s.lo.x) (int_le x s.hi.x) refl refl refl refl e
    where
      by_tests : (a b c d : Bool) → int_le s.lo.x y ≡ a → int_le s.hi.x y ≡ b → int_le x s.lo.x ≡ c → int_le x s.hi.x ≡ d
          → ((a || b) && (c || d)) ≡ false → ((y <ℤ s.lo.x) × (y <ℤ s.hi.x)) ⊎ ((s.lo.x <ℤ x) × (s.hi.x <ℤ x))
      by_tests false false c d i j k l e = inl (omega (arith, ints, i), omega (arith, ints, j))
      by_tests true b false false i j k l e = inr (omega (arith, ints, k), omega (arith, ints, l))
      by_tests false true false false i j k l e = inr (omega (arith, ints, k), omega (arith, ints, l))
      by_tests true b true d i j k l e = absurd (false≢true (sym e))
      by_tests true b false true i j k l e = absurd (false≢true (sym e))
      by_tests false true true d i j k l e = absurd (false≢true (sym e))
      by_tests false true false true i j k l e = absurd (false≢true (sym e))

  -- where a segment does not reach, what is so of the rest is so of all
  by_reach : {A : Type 0} (F : List Segment → A) (s : Segment) (ss : List Segment) → F (near ss) ≡ F ss
      → (F (near ss) ≡ F ss → F (s ∷ near ss) ≡ F (s ∷ ss)) → (reaches x y s ≡ false → F (s ∷ ss) ≡ F ss) → F (near (s ∷ ss)) ≡ F (s ∷ ss)
  by_reach F s ss k f g = by_test (reaches x y s) refl
    where
      by_test : (b : Bool) → reaches x y s ≡ b → F (cond b (s ∷ near ss) (near ss)) ≡ F (s ∷ ss)
      by_test true e = f k
      by_test false e = k ∙ sym (g e)

  column_near : (ss : List Segment) (u v : ℤ) → x ≤ℤ u → u ≤ℤ v → v ≤ℤ y → column u v (near ss) ≡ column u v ss
  column_near [] u v f g h = refl
  column_near (s ∷ ss) u v f g h = by_reach (λ zs. column u v zs) s ss (column_near ss u v f g h)
      (λ k. ap (λ (c : List Segment). cond (int_le s.lo.x u && int_le v s.hi.x) (place u v s c) c) k)
      (λ e. ap (λ b. cond b (place u v s (column u v ss)) (column u v ss)) (passed e))
    where
      passed : reaches x y s ≡ false → (int_le s.lo.x u && int_le v s.hi.x) ≡ false
      passed e = and_false (int_le s.lo.x u) (int_le v s.hi.x)
          (λ m n. elim (beside s e) [ inl k ↦ omega (arith, ints, k.0) | inr k ↦ omega (arith, ints, k.1) ])

  module _ (u : ℤ) (f : x ≤ℤ u) (g : u ≤ℤ y) where
    lo_off : (s : Segment) → reaches x y s ≡ false → (int_le s.lo.x u && int_le u s.lo.x) ≡ false
    lo_off s e = and_false (int_le s.lo.x u) (int_le u s.lo.x)
        (λ m n. elim (beside s e) [ inl k ↦ omega (arith, ints, k.0) | inr k ↦ omega (arith, ints, k.0) ])

    hi_off : (s : Segment) → reaches x y s ≡ false → (int_le s.hi.x u && int_le u s.hi.x) ≡ false
    hi_off s e = and_false (int_le s.hi.x u) (int_le u s.hi.x)
        (λ m n. elim (beside s e) [ inl k ↦ omega (arith, ints, k.1) | inr k ↦ omega (arith, ints, k.1) ])

    abbrev with_ends : Bool → Bool → Segment → List ℤ → List ℤ
    with_ends a b s rest = cond b (put s.hi.y (cond a (put s.lo.y rest) rest)) (cond a (put s.lo.y rest) rest)

    ordinates_near : (ss : List Segment) → ordinates u (near ss) ≡ ordinates u ss
    ordinates_near [] = refl
    ordinates_near (s ∷ ss) = by_reach (λ zs. ordinates u zs) s ss (ordinates_near ss)
        (λ k. ap (with_ends (int_le s.lo.x u && int_le u s.lo.x) (int_le s.hi.x u && int_le u s.hi.x) s) k)
        (λ e. ap (λ a. with_ends a (int_le s.hi.x u && int_le u s.hi.x) s (ordinates u ss)) (lo_off s e)
        ∙ ap (λ b. with_ends false b s (ordinates u ss)) (hi_off s e))

    abbrev covers_by : Segment → ℤ → ℤ → Bool → Bool → Bool
    covers_by s a b m n = m && n && (int_le s.hi.x u && int_le u s.hi.x) && (int_le s.lo.y a && int_le b s.hi.y)

    none_covers : (s : Segment) (a b : ℤ) → reaches x y s ≡ false → (m n : Bool) → int_le s.lo.x u ≡ m → int_le u s.lo.x ≡ n
        → covers_by s a b m n ≡ false
    none_covers s a b e false n i j = refl
    none_covers s a b e true false i j = refl
    none_covers s a b e true true i j = absurd (elim (beside s e) [ inl k ↦ omega (arith, ints, k.0) | inr k ↦ omega (arith, ints, k.0) ])

    covered_near : (a b : ℤ) (ss : List Segment) → is_covered u (near ss) a b ≡ is_covered u ss a b
    covered_near a b [] = refl
    covered_near a b (s ∷ ss) = by_reach (λ zs. is_covered u zs a b) s ss (covered_near a b ss)
        (λ k. ap (λ c. covers_by s a b (int_le s.lo.x u) (int_le u s.lo.x) || c) k)
        (λ e. ap (λ c. c || is_covered u ss a b) (none_covers s a b e (int_le s.lo.x u) (int_le u s.lo.x) refl refl))

    intervals_same : (F G : ℤ → ℤ → Bool) → ((a b : ℤ) → F a b ≡ G a b) → (o : Option ℤ) (bs : List ℤ)
        → intervals F o bs ≡ intervals G o bs
    intervals_same F G k None [] = refl
    intervals_same F G k (Some a) [] = refl
    intervals_same F G k None (b ∷ bs) = rw (intervals_same F G k (Some b) bs) refl
    intervals_same F G k (Some a) (b ∷ bs) = rw (k a b, intervals_same F G k (Some b) bs) refl

    wall_near : (even : Bool) (ss col : List Segment) → wall even u (near ss) col ≡ wall even u ss col
    wall_near even ss col = ap (λ gs. on_wall u (slots even None col) gs) (ap (λ os. intervals (is_covered u (near ss)) None os)
        (ordinates_near ss) ∙ intervals_same (is_covered u (near ss)) (is_covered u ss) (λ a b. covered_near a b ss) None
        (ordinates u ss))

  strips_near : (even : Bool) (ss : List Segment) (u : ℤ) (us : List ℤ) → IsRising (u ∷ us) → x ≤ℤ u → last u us ≤ℤ y
      → strips even (near ss) u us ≡ strips even ss u us
  strips_near even ss u [] h f g = refl
  strips_near even ss u (v ∷ vs) h f g =
      let l = last_least v vs h.1 in
      let c : column u v (near ss) ≡ column u v ss = column_near ss u v f (omega (arith, ints, h.0.0)) (omega (arith, ints, l, g)) in
      let w = wall_near u f (omega (arith, ints, h.0.0, l, g)) even ss (column u v ss) in
      let r = strips_near even ss v vs h.1 (omega (arith, ints, h.0.0, f)) g in
      ap (λ col. (wall even u (near ss) col ++ in_column u v (slots even None col)) ++ strips even (near ss) v vs) c
      ∙ ap (λ ws. (ws ++ in_column u v (slots even None (column u v ss))) ++ strips even (near ss) v vs) w
      ∙ ap (λ rs. (wall even u ss (column u v ss) ++ in_column u v (slots even None (column u v ss))) ++ rs) r

-- ---- part by part
strips_append : (even : Bool) (ss : List Segment) (x : ℤ) (ys zs : List ℤ)
    → strips even ss x (ys ++ zs) ≡ strips even ss x ys ++ strips even ss (last x ys) zs
strips_append even ss x [] zs = refl
strips_append even ss x (y ∷ ys) zs =
    let one = wall even x ss (column x y ss) ++ in_column x y (slots even None (column x y ss)) in
    ap (λ rs. one ++ rs) (strips_append even ss y ys zs) ∙ sym (append_assoc one (strips even ss y ys) (strips even ss (last y ys) zs))

all_strips : (even : Bool) (ss : List Segment) (x : ℤ) (ys : List ℤ) → strips even ss x ys ++ wall even (last x ys) ss []
    ≡ cells_from even ss x ys
all_strips even ss x [] = refl
all_strips even ss x (y ∷ ys) =
    let w = wall even x ss (column x y ss) in
    let c = in_column x y (slots even None (column x y ss)) in
    append_assoc (w ++ c) (strips even ss y ys) (wall even (last y ys) ss [])
    ∙ append_assoc w c (strips even ss y ys ++ wall even (last y ys) ss []) ∙ ap (λ rs. w ++ (c ++ rs)) (all_strips even ss y ys)

two_parts : {E : Type 0} (r : Result (Unit {0}) E) (first second whole : List Cell) → first ++ second ≡ whole → (old mid new : List Cell)
    → mid ≡ old ++ kept first → OnOk r (new ≡ mid ++ kept second) → OnOk r (new ≡ old ++ kept whole)
two_parts (Ok u) first second whole e old mid new f g =
    g ∙ ap (λ cs. cs ++ kept second) f ∙ append_assoc old (kept first) (kept second)
    ∙ ap (λ cs. old ++ cs) (sym (filter-append has_point first second)) ∙ ap (λ cs. old ++ kept cs) e
two_parts (Err v) first second whole e old mid new f g = g

-- the columns of both halves, over the segments that reach them
pub halves_done : {E : Type 0} (r : Result (Unit {0}) E) (even : Bool) (ss nears : List Segment) (first between : ℤ)
    (low high rest : List ℤ) → rest ≡ low ++ high → between ≡ last first low → nears ≡ filter (reaches first (last first rest)) ss
    → IsRising (first ∷ rest) → (old mid new : List Cell) → mid ≡ old ++ kept (strips even nears first low)
    → OnOk r (new ≡ mid ++ kept (strips even nears between high)) → OnOk r (new ≡ old ++ kept (strips even ss first rest))
halves_done r even ss nears first between low high rest e b n h old mid new f g =
    let whole = ap (λ v. strips even nears first low ++ strips even nears v high) b ∙ sym (strips_append even nears first low high)
    ∙ ap (λ zs. strips even nears first zs) (sym e) ∙ ap (λ ns. strips even ns first rest) n
    ∙ strips_near first (last first rest) even ss first rest h (omega (arith, ints)) (omega (arith, ints)) in
    two_parts r (strips even nears first low) (strips even nears between high) (strips even ss first rest) whole old mid new f g

-- the columns, and then the last wall
pub all_done : {E : Type 0} (r : Result (Unit {0}) E) (even : Bool) (ss : List Segment) (first greatest : ℤ) (rest : List ℤ)
    → greatest ≡ last first rest → (old mid new : List Cell) → mid ≡ old ++ kept (strips even ss first rest)
    → OnOk r (new ≡ mid ++ kept (wall even greatest ss [])) → OnOk r (new ≡ old ++ kept (cells_from even ss first rest))
all_done r even ss first greatest rest e old mid new f g =
    two_parts r (strips even ss first rest) (wall even greatest ss []) (cells_from even ss first rest)
    (ap (λ v. strips even ss first rest ++ wall even v ss []) e ∙ all_strips even ss first rest) old mid new f g

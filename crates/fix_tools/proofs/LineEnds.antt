-- The ends of a line: what they are once one of them is put elsewhere, and that each lies on a segment of its own.
use Rattle.std.proofs.Common.{◌≡◌, ℕ, zero, suc, ◌+◌, ◌≤◌, ◌≤ℤ◌, Bool, true, false, cond, List, [], ◌∷◌, ◌++◌, length, map, flat_map, arith, refl, sym, subst, ap, ◌∙◌, Some, inl, inr, if◌then◌else◌}
use Rattle.std.specs.Prelude.{slice_get}
use Rattle.std.proofs.lemmas.Int.{ints, clamps}
use Rattle.std.proofs.lemmas.Bool.{false≢true}
use Rattle.plane_terms.specs.Lists.{Every, SomeOf, how_many}
use Rattle.plane_terms.specs.Point.{Place, Point, IsAt, same_place}
use Rattle.plane_terms.specs.Segment.{Segment, OnSegment, comes_before, segment_between}
use Rattle.plane_terms.specs.Shape.{Shape, path, segments_of, rings_of, last_of, two_ends, ends_of, ends_by, without_repeats, IsRing, IsShape}
use Rattle.plane_terms.specs.Line.{holds_place}
use Rattle.plane_terms.specs.declared.kind.Kind.{Kind}
use Rattle.plane_terms.specs.declared.kind.Kind.TheVariants as kind
use Rattle.plane_terms.proofs.ListLemmas.{how_many_joined}
use Rattle.cell_laws.proofs.OnLine.{on_lo, on_hi}
use Rattle.cell_laws.proofs.AtPlaces.{turn_on, same_is, is_same}
use Rattle.column_laws.proofs.Parity.{in_order, out_of_order}
use Rattle.rule_laws.proofs.Tests.{holds_by, at_test, place_from}
use Rattle.fix_terms.specs.Snap.{with_last, with_end, snapped_shape}

-- ---- equal neighbours that go leave the ends
record Starts (p : Place) (ps : List Place) : Type 0 where
  rest : List Place
  first : without_repeats (p ∷ ps) ≡ p ∷ rest
  last : last_of p rest ≡ last_of p ps

starts : (p : Place) (ps : List Place) → Starts p ps
starts p [] = record { rest = []; first = refl; last = refl }
starts p (q ∷ qs) = by (same_place p q) refl (starts q qs)
  where
    by : (b : Bool) → same_place p q ≡ b → Starts q qs → Starts p (q ∷ qs)
    by true e r =
        let same : q ≡ p = sym (same_is p q e) in record {
          rest = r.rest;
          first = rw e (r.first ∙ ap (λ (v : Place). v ∷ r.rest) same);
          last = ap (λ (v : Place). last_of v r.rest) (sym same) ∙ r.last;
        }
    by false e r = record { rest = q ∷ r.rest; first = rw e (ap (λ (vs : List Place). p ∷ vs) r.first); last = r.last }

two_ends_kept : (ring : List Place) → two_ends (without_repeats ring) ≡ two_ends ring
two_ends_kept [] = refl
two_ends_kept (p ∷ ps) =
    let r = starts p ps in
    ap (λ (vs : List Place). two_ends vs) r.first ∙ ap (λ (v : Place). p ∷ v ∷ []) r.last

ends_made : (rings : List (List Place))
    → flat_map two_ends (flat_map (λ part. part) (map (λ part. map {A = List Place} without_repeats part) (map {A = List Place} (λ ring. ring ∷ []) rings)))
    ≡ flat_map two_ends rings
ends_made [] = refl
ends_made (r ∷ rs) =
    ap (λ (vs : List Place). vs ++ flat_map two_ends (flat_map (λ part. part) (map (λ part. map {A = List Place} without_repeats part)
    (map {A = List Place} (λ ring. ring ∷ []) rs)))) (two_ends_kept r)
    ∙ ap (λ (vs : List Place). two_ends r ++ vs) (ends_made rs)

-- ---- one of them replaced
abbrev pub replaced : ℕ → Place → List Place → List Place
replaced i to [] = []
replaced zero to (v ∷ vs) = to ∷ vs
replaced (suc i) to (v ∷ vs) = v ∷ replaced i to vs

last_set : (x to q : Place) (ps : List Place) → last_of x (with_last to (q ∷ ps)) ≡ to
last_set x to q [] = refl
last_set x to q (r ∷ rs) = last_set q to r rs

ends_replaced : (i : ℕ) (to : Place) (rings : List (List Place)) → Every (λ ring. 2 ≤ length ring) rings
    → flat_map two_ends (with_end i to rings) ≡ replaced i to (flat_map two_ends rings)
ends_replaced i to [] h = refl
ends_replaced i to ([] ∷ rs) h = absurd (omega (arith, h.0))
ends_replaced i to ((p ∷ []) ∷ rs) h = absurd (omega (arith, h.0))
ends_replaced zero to ((p ∷ q ∷ ps) ∷ rs) h = refl
ends_replaced (suc zero) to ((p ∷ q ∷ ps) ∷ rs) h = ap (λ (v : Place). p ∷ v ∷ flat_map two_ends rs) (last_set p to q ps)
ends_replaced (suc (suc i)) to ((p ∷ q ∷ ps) ∷ rs) h = ap (λ (vs : List Place). p ∷ last_of q ps ∷ vs) (ends_replaced i to rs h.1)

long_rings : (rings : List (List Place)) → Every (IsRing kind.Line) rings → Every (λ ring. 2 ≤ length ring) rings
long_rings [] h = tt
long_rings (r ∷ rs) h = (h.0.0, long_rings rs h.1)

line_rings : (s : Shape) → IsShape s → s.kind ≡ kind.Line → Every (IsRing kind.Line) (rings_of s)
line_rings s v e = subst (λ (k : Kind). Every (IsRing k) (rings_of s)) e v.rings

pub ends_are : (s : Shape) → s.kind ≡ kind.Line → ends_of s ≡ flat_map two_ends (rings_of s)
ends_are s e = ap (λ (k : Kind). ends_by k (rings_of s)) e

pub snapped_ends : (i : ℕ) (to : Place) (s : Shape) → IsShape s → s.kind ≡ kind.Line → ends_of (snapped_shape i to s) ≡ replaced i to (ends_of s)
snapped_ends i to s v e =
    ends_made (with_end i to (rings_of s)) ∙ ends_replaced i to (rings_of s) (long_rings (rings_of s) (line_rings s v e))
    ∙ ap (λ (vs : List Place). replaced i to vs) (sym (ends_are s e))

-- ---- a shape with ends is a line
pub kind_of_ends : (s : Shape) (i : ℕ) (e : Place) → slice_get (ends_of s) i ≡ Some e → s.kind ≡ kind.Line
kind_of_ends s i e h = by s.kind h
  where
    by : (k : Kind) → slice_get (ends_by k (rings_of s)) i ≡ Some e → k ≡ kind.Line
    by kind.Point f = absurd (cc)
    by kind.Line f = refl
    by kind.Polygon f = absurd (cc)

-- ---- so many ends at a place
pub count_replaced : (e to : Place) (i : ℕ) (vs : List Place) → slice_get vs i ≡ Some e → same_place e to ≡ false
    → how_many (same_place e) (replaced i to vs) + 1 ≡ how_many (same_place e) vs
count_replaced e to i [] s d = absurd cc
count_replaced e to zero (v ∷ vs) s d =
    let own : same_place e v ≡ true = is_same e v (sym (same s)) in
    rw (d, own) (omega arith)
  where
    same : Some v ≡ Some e → v ≡ e
    same k = cc
count_replaced e to (suc i) (v ∷ vs) s d = one_more (same_place e v) (count_replaced e to i vs s d)
  where
    one_more : (b : Bool) → how_many (same_place e) (replaced i to vs) + 1 ≡ how_many (same_place e) vs
        → cond b (suc (how_many (same_place e) (replaced i to vs))) (how_many (same_place e) (replaced i to vs)) + 1
        ≡ cond b (suc (how_many (same_place e) vs)) (how_many (same_place e) vs)
    one_more true k = omega (arith, k)
    one_more false k = k

pub replaced_there : (to e : Place) (i : ℕ) (vs : List Place) → slice_get vs i ≡ Some e → 1 ≤ how_many (same_place to) (replaced i to vs)
replaced_there to e i [] s = absurd cc
replaced_there to e zero (v ∷ vs) s = let own : same_place to to ≡ true = is_same to to refl in rw own (omega arith)
replaced_there to e (suc i) (v ∷ vs) s = more (same_place to v) (replaced_there to e i vs s)
  where
    more : (b : Bool) → 1 ≤ how_many (same_place to) (replaced i to vs)
        → 1 ≤ cond b (suc (how_many (same_place to) (replaced i to vs))) (how_many (same_place to) (replaced i to vs))
    more true k = omega arith
    more false k = k

pub end_there : (e : Place) (i : ℕ) (vs : List Place) (p : Point) → slice_get vs i ≡ Some e → IsAt e p → SomeOf (λ v. IsAt v p) vs
end_there e i [] p s a = absurd cc
end_there e zero (v ∷ vs) p s a = inl (subst (λ (w : Place). IsAt w p) (sym (same s)) a)
  where
    same : Some v ≡ Some e → v ≡ e
    same k = cc
end_there e (suc i) (v ∷ vs) p s a = inr (end_there e i vs p s a)

pub counted_at : (e : Place) (p : Point) (vs : List Place) → IsAt e p → SomeOf (λ v. IsAt v p) vs → 1 ≤ how_many (same_place e) vs
counted_at e p [] a s = absurd s
counted_at e p (v ∷ vs) a s = elim s [
  | inl h ↦ let t : same_place e v ≡ true = (at_test e v p a).1 h in rw t (omega arith)
  | inr h ↦ more (same_place e v) (counted_at e p vs a h)
]
  where
    more : (b : Bool) → 1 ≤ how_many (same_place e) vs → 1 ≤ cond b (suc (how_many (same_place e) vs)) (how_many (same_place e) vs)
    more true k = omega arith
    more false k = k

pub held_counted : (q : Place) (p : Point) (ss : List Segment) → IsAt q p → 1 ≤ how_many (λ t. holds_place t q) ss → SomeOf (λ t. OnSegment t p) ss
held_counted q p [] a h = absurd (omega (arith, h))
held_counted q p (s ∷ ss) a h = by (holds_place s q) refl h (held_counted q p ss a)
  where
    by : (b : Bool) → holds_place s q ≡ b → 1 ≤ cond b (suc (how_many (λ t. holds_place t q) ss)) (how_many (λ t. holds_place t q) ss)
        → (1 ≤ how_many (λ t. holds_place t q) ss → SomeOf (λ t. OnSegment t p) ss) → SomeOf (λ t. OnSegment t p) (s ∷ ss)
    by true e k more = inl (place_from s q p a e)
    by false e k more = inr (more k)

-- ---- a segment holds what it was drawn from and to
holds_lo : (s : Segment) → s.lo.x ≤ℤ s.hi.x → holds_place s s.lo ≡ true
holds_lo s l = holds_by s s.lo (turn_on s s.lo (on_lo s)) (omega (arith, ints, clamps))

holds_hi : (s : Segment) → s.lo.x ≤ℤ s.hi.x → holds_place s s.hi ≡ true
holds_hi s l = holds_by s s.hi (turn_on s s.hi (on_hi s)) (omega (arith, ints, clamps))

record HoldsBoth (s : Segment) (a b : Place) : Type 0 where
  from : holds_place s a ≡ true
  to : holds_place s b ≡ true

holds_both : (a b : Place) → HoldsBoth (segment_between a b) a b
holds_both a b = by_order (comes_before a b) refl
  where
    by_order : (t : Bool) → comes_before a b ≡ t
        → HoldsBoth (if t then record { lo = a; hi = b; turned = false } else record { lo = b; hi = a; turned = true }) a b
    by_order true e =
        let s : Segment = record { lo = a; hi = b; turned = false } in
        let l = in_order a b e in
        record { from = holds_lo s l; to = holds_hi s l }
    by_order false e =
        let s : Segment = record { lo = b; hi = a; turned = true } in
        let l = out_of_order a b e in
        record { from = holds_hi s l; to = holds_lo s l }

-- where the place is the first or the second of two
first_held : (e p q : Place) → same_place e p ≡ true → holds_place (segment_between p q) e ≡ true
first_held e p q t = subst (λ (v : Place). holds_place (segment_between p q) v ≡ true) (sym (same_is e p t)) (holds_both p q).from

second_held : (e p q : Place) → same_place e q ≡ true → holds_place (segment_between p q) e ≡ true
second_held e p q t = subst (λ (v : Place). holds_place (segment_between p q) v ≡ true) (sym (same_is e q t)) (holds_both p q).to

abbrev held : Place → List Segment → ℕ
held e ss = how_many (λ t. holds_place t e) ss

-- ---- as many segments as ends
last_held : (e q r : Place) (rs : List Place) → same_place e (last_of r rs) ≡ true → 1 ≤ held e (path (q ∷ r ∷ rs))
last_held e q r [] t = let h = second_held e q r t in rw h (omega arith)
last_held e q r (s ∷ ss) t = more (holds_place (segment_between q r) e) (last_held e r s ss t)
  where
    more : (b : Bool) → 1 ≤ held e (path (r ∷ s ∷ ss)) → 1 ≤ cond b (suc (held e (path (r ∷ s ∷ ss)))) (held e (path (r ∷ s ∷ ss)))
    more true k = omega arith
    more false k = k

not_both : {A : Type 0} (b : Bool) → b ≡ true → b ≡ false → A
not_both b u v = absurd (false≢true (sym v ∙ u))

two_of : (b c h : Bool) (m : ℕ) → (b ≡ true → h ≡ true) → (c ≡ true → 1 ≤ m) → cond b (suc (cond c 1 0)) (cond c 1 0) ≤ cond h (suc m) m
two_of true true true m f g = let k = g refl in omega (arith, k)
two_of true false true m f g = omega arith
two_of true c false m f g = absurd (false≢true (f refl))
two_of false true true m f g = omega arith
two_of false true false m f g = g refl
two_of false false h m f g = omega arith

one_of : (b c h : Bool) → (b ≡ true → h ≡ true) → (c ≡ true → h ≡ true) → (b ≡ true → c ≡ true → ⊥)
    → cond b (suc (cond c 1 0)) (cond c 1 0) ≤ cond h 1 0
one_of true true h f g n = absurd (n refl refl)
one_of true false true f g n = omega arith
one_of true false false f g n = absurd (false≢true (f refl))
one_of false true true f g n = omega arith
one_of false true false f g n = absurd (false≢true (g refl))
one_of false false h f g n = omega arith

ring_held : (e : Place) (ring : List Place) → IsRing kind.Line ring → how_many (same_place e) (two_ends ring) ≤ held e (path ring)
ring_held e [] h = absurd (omega (arith, h.0))
ring_held e (p ∷ []) h = absurd (omega (arith, h.0))
ring_held e (p ∷ q ∷ []) h =
    one_of (same_place e p) (same_place e q) (holds_place (segment_between p q) e) (first_held e p q) (second_held e p q)
    (λ u v. not_both (same_place p q) (is_same p q (sym (same_is e p u) ∙ same_is e q v)) h.1.0)
ring_held e (p ∷ q ∷ r ∷ rs) h =
    two_of (same_place e p) (same_place e (last_of r rs)) (holds_place (segment_between p q) e) (held e (path (q ∷ r ∷ rs)))
    (first_held e p q) (last_held e q r rs)

rings_held : (e : Place) (rings : List (List Place)) → Every (IsRing kind.Line) rings
    → how_many (same_place e) (flat_map two_ends rings) ≤ held e (flat_map path rings)
rings_held e [] h = omega arith
rings_held e (r ∷ rs) h =
    let a = how_many_joined (same_place e) (two_ends r) (flat_map two_ends rs) in
    let b = how_many_joined (λ (t : Segment). holds_place t e) (path r) (flat_map path rs) in
    let c = ring_held e r h.0 in
    let d = rings_held e rs h.1 in
    omega (arith, a, b, c, d)

segments_are : (s : Shape) → s.kind ≡ kind.Line → segments_of s ≡ flat_map path (rings_of s)
segments_are s e = by s.kind e
  where
    by : (k : Kind) → k ≡ kind.Line → segments_of (record { kind = k; parts = s.parts }) ≡ flat_map path (rings_of s)
    by kind.Line f = refl
    by kind.Point f = absurd (cc)
    by kind.Polygon f = absurd (cc)

pub ends_held : (e : Place) (s : Shape) → IsShape s → s.kind ≡ kind.Line
    → how_many (same_place e) (ends_of s) ≤ how_many (λ t. holds_place t e) (segments_of s)
ends_held e s v k =
    let a = ap (λ (vs : List Place). how_many (same_place e) vs) (ends_are s k) in
    let b = ap (λ (ss : List Segment). held e ss) (segments_are s k) in
    let c = rings_held e (rings_of s) (line_rings s v k) in
    omega (arith, a, b, c)

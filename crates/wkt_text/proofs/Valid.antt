-- A valid shape has no fault.
--
-- every_got, pair_at     what holds of each, or of each pair, holds of those at these places
-- valid_flawless        the promise
use Rattle.std.proofs.Common.{ℕ, zero, suc, ◌≡◌, ◌<◌, ◌≤◌, ◌⊎◌, inl, inr, List, [], ◌∷◌, length, Some, ap, subst, arith}
use Rattle.std.specs.Prelude.{slice_get}
use Rattle.plane_terms.specs.Lists.{Every, EveryPair, SomeOf}
use Rattle.plane_terms.specs.Point.{Place}
use Rattle.plane_terms.specs.Segment.{Segment}
use Rattle.plane_terms.specs.Shape.{Shape, rings_of, segments_of, HasParts, IsPart, IsRing, IsSimple, IsShape, AreSimple}
use Rattle.plane_terms.specs.declared.kind.Kind.{Kind}
use Rattle.plane_terms.specs.declared.kind.Kind.TheVariants as kind
use Rattle.shape.specs.Counts.{IsFull}
use Rattle.plane_terms.specs.ShapeFaults.{IsPair, AreBad, IsFlawless, least}
use Rattle.shape.proofs.Made.{full_flawless}
use Rattle.plane_terms.proofs.ListLemmas.{every_got}

pair_at : {A : Type 0} (R : A → A → Type 0) (xs : List A) (i j : ℕ) (x y : A) → EveryPair R xs → i < j → slice_get xs i ≡ Some x
    → slice_get xs j ≡ Some y → R x y
pair_at R [] i j x y h l e k = cc
pair_at R (z ∷ zs) i zero x y h l e k = absurd (omega (arith, l))
pair_at R (z ∷ zs) zero (suc j) x y h l e k = let same : z ≡ x = cc in subst (λ (u : _). R u y) same (every_got (R z) zs j y h.0 k)
pair_at R (z ∷ zs) (suc i) (suc j) x y h l e k = pair_at R zs i j x y h.1 (omega (arith, l)) e k

simple_fine : (s t : Segment) → AreSimple s t → AreBad s t → ⊥
simple_fine s t h (inl c) = c.inner (h.ends.each c.meet.at c.meet.first c.meet.second)
simple_fine s t h (inr o) = h.apart o

no_part : (k : Kind) (parts : List (List (List Place))) → HasParts k (length parts) → parts ≡ [] → ⊥
no_part kind.Point parts h e = omega (arith, h, ap length e)
no_part kind.Line parts h e = omega (arith, h, ap length e)
no_part kind.Polygon parts h e = omega (arith, h, ap length e)

bare : (k : Kind) (part : List (List Place)) → IsPart k part → part ≡ [] → ⊥
bare kind.Point part h e = omega (arith, h, ap length e)
bare kind.Line part h e = omega (arith, h, ap length e)
bare kind.Polygon part h e = omega (arith, h, ap length e)

none_bare : (k : Kind) (parts : List (List (List Place))) → Every (IsPart k) parts → SomeOf (λ part. part ≡ []) parts → ⊥
none_bare k [] h e = e
none_bare k (part ∷ parts) h (inl e) = bare k part h.0 e
none_bare k (part ∷ parts) h (inr e) = none_bare k parts h.1 e

long : (k : Kind) (ring : List Place) → IsRing k ring → least k ≤ length ring
long kind.Point ring h = omega (arith, h)
long kind.Line ring h = h.0
long kind.Polygon ring h = h.0

all_long : (k : Kind) (rings : List (List Place)) → Every (IsRing k) rings → Every (λ ring. least k ≤ length ring) rings
all_long k [] h = tt
all_long k (ring ∷ rings) h = (long k ring h.0, all_long k rings h.1)

full : (s : Shape) → IsShape s → IsFull s
full s h = record {
  ringed = lacks;
  long = all_long s.kind (rings_of s) h.rings;
  few = h.vertices;
}
  where
    lacks : ((s.parts ≡ []) ⊎ SomeOf (λ part. part ≡ []) s.parts) → ⊥
    lacks (inl e) = no_part s.kind s.parts h.some e
    lacks (inr e) = none_bare s.kind s.parts h.parts e

pub valid_flawless : (s : Shape) → IsShape s → IsFlawless s
valid_flawless s h = full_flawless s (full s h) pairs
  where
    pairs : s.kind ≡ kind.Polygon → (i j : ℕ) → ¬ (IsPair AreBad (segments_of s) i j)
    pairs e i j p =
        let simple : EveryPair AreSimple (segments_of s) = subst (λ (k : Kind). IsSimple k (segments_of s)) e h.simple in
        simple_fine p.s p.t (pair_at AreSimple (segments_of s) i j p.s p.t simple p.ordered p.first p.second) p.says

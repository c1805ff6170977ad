-- The ends of a line by their numbers.
use Rattle.std.proofs.Common.{◌≡◌, ℕ, zero, suc, ◌+◌, ◌-◌, ◌*◌, ◌<◌, ◌≤◌, List, [], ◌∷◌, length, get_or, Some, refl, sym, ap, ◌∙◌, arith}
use Rattle.std.proofs.lemmas.List.{get_or-map, length-map}
use Rattle.std.specs.List.{slice_get, flat_map}
use Rattle.plane_terms.specs.Lists.{Every}
use Rattle.plane_terms.specs.Point.{Place}
use Rattle.plane_terms.specs.Shape.{two_ends, last_of}
use Rattle.shape.specs.Given.{Ring, rings_in}
use Rattle.shape.proofs.Opening.{at_place}

abbrev AreLong : List (List Place) → Type 0
AreLong rings = Every (λ ring. 1 ≤ length ring) rings

at_number : {i j : ℕ} (xs : List Place) → i ≡ j → slice_get xs i ≡ slice_get xs j
at_number {i} {j} xs e = ap (λ (n : ℕ). slice_get xs n) e

pub ends_counted : (rings : List (List Place)) → AreLong rings → length (flat_map two_ends rings) ≡ 2 * length rings
ends_counted [] h = refl
ends_counted ([] ∷ rs) h = absurd (omega (arith, h.0))
ends_counted ((q ∷ qs) ∷ rs) h = omega (arith, ends_counted rs h.1)

pub last_is : (q : Place) (qs : List Place) (d : Place) → last_of q qs ≡ get_or (q ∷ qs) (length qs) d
last_is q [] d = refl
last_is q (r ∷ rs) d = last_is r rs d

first_end : (rings : List (List Place)) (k : ℕ) (d : Place) (e : List Place) → AreLong rings → k < length rings
    → slice_get (flat_map two_ends rings) (2 * k) ≡ Some (get_or (get_or rings k e) 0 d)
first_end [] k d e h l = absurd (omega (arith, l))
first_end ([] ∷ rs) k d e h l = absurd (omega (arith, h.0))
first_end ((q ∷ qs) ∷ rs) zero d e h l = refl
first_end ((q ∷ qs) ∷ rs) (suc k) d e h l =
    at_number {i = 2 * suc k} {j = suc (suc (2 * k))} (q ∷ last_of q qs ∷ flat_map two_ends rs) (omega arith)
    ∙ first_end rs k d e h.1 (omega (arith, l))

last_end : (rings : List (List Place)) (k : ℕ) (d : Place) (e : List Place) → AreLong rings → k < length rings
    → slice_get (flat_map two_ends rings) (2 * k + 1) ≡ Some (get_or (get_or rings k e) (length (get_or rings k e) - 1) d)
last_end [] k d e h l = absurd (omega (arith, l))
last_end ([] ∷ rs) k d e h l = absurd (omega (arith, h.0))
last_end ((q ∷ qs) ∷ rs) zero d e h l = ap Some (last_is q qs d ∙ at_place (q ∷ qs) d (omega arith))
last_end ((q ∷ qs) ∷ rs) (suc k) d e h l =
    at_number {i = 2 * suc k + 1} {j = suc (suc (2 * k + 1))} (q ∷ last_of q qs ∷ flat_map two_ends rs) (omega arith)
    ∙ last_end rs k d e h.1 (omega (arith, l))

-- ---- of parts as the code holds them
pub end_within : (ps : List Ring) (i k : ℕ) → AreLong (rings_in ps) → i < length (flat_map two_ends (rings_in ps)) → k + k ≤ i
    → k < length ps
end_within ps i k h l m = omega (arith, l, m, ends_counted (rings_in ps) h, length-map ps (λ (ring : Ring). ring.items))

long_at : (rings : List (List Place)) (k : ℕ) (e : List Place) → AreLong rings → k < length rings → 1 ≤ length (get_or rings k e)
long_at [] k e h l = absurd (omega (arith, l))
long_at (r ∷ rs) zero e h l = h.0
long_at (r ∷ rs) (suc k) e h l = long_at rs k e h.1 (omega (arith, l))

part_is : (ps : List Ring) (k : ℕ) (p : Ring) → k < length ps → p ≡ get_or ps k p → p.items ≡ get_or (rings_in ps) k p.items
part_is ps k p l e = ap (λ (r : Ring). r.items) e ∙ sym (get_or-map (λ (ring : Ring). ring.items) ps k p p.items l)

in_rings : (ps : List Ring) (k : ℕ) → k < length ps → k < length (rings_in ps)
in_rings ps k l = omega (arith, l, length-map ps (λ (ring : Ring). ring.items))

pub part_long : (ps : List Ring) (k : ℕ) (p : Ring) → AreLong (rings_in ps) → k < length ps → p ≡ get_or ps k p → 1 ≤ length p.items
part_long ps k p h l e =
    omega (arith, long_at (rings_in ps) k p.items h (in_rings ps k l), ap (λ (q : List Place). length q) (part_is ps k p l e))

pub end_first : (ps : List Ring) (i k : ℕ) (p : Ring) (q : Place) → AreLong (rings_in ps) → k < length ps → p ≡ get_or ps k p → i ≡ 2 * k
    → q ≡ get_or p.items 0 q → slice_get (flat_map two_ends (rings_in ps)) i ≡ Some q
end_first ps i k p q h l e n a =
    at_number {i = i} {j = 2 * k} (flat_map two_ends (rings_in ps)) n ∙ first_end (rings_in ps) k q p.items h (in_rings ps k l)
    ∙ ap (λ (r : List Place). Some (get_or r 0 q)) (sym (part_is ps k p l e)) ∙ ap Some (sym a)

pub end_last : (ps : List Ring) (i k : ℕ) (p : Ring) (q : Place) → AreLong (rings_in ps) → k < length ps → p ≡ get_or ps k p → i ≡ 2 * k + 1
    → q ≡ get_or p.items (length p.items - 1) q → slice_get (flat_map two_ends (rings_in ps)) i ≡ Some q
end_last ps i k p q h l e n a =
    at_number {i = i} {j = 2 * k + 1} (flat_map two_ends (rings_in ps)) n ∙ last_end (rings_in ps) k q p.items h (in_rings ps k l)
    ∙ ap (λ (r : List Place). Some (get_or r (length r - 1) q)) (sym (part_is ps k p l e)) ∙ ap Some (sym a)

-- One count of a list is raised by one, and the others stay.
use Rattle.std.proofs.Common.{◌≡◌, inl, inr, ℕ, ◌<◌, List, Option, Some, None, length, get_or, set, map, sym, ◌∙◌, ap, arith}
use Rattle.std.proofs.lemmas.Bool.Decides.{eqb_tells}
use Rattle.std.proofs.lemmas.List.{get_or-set_same, get_or-set_other, map-set, get_or-map, length-map}
use Rattle.topology_terms.specs.Counts.{raised}
use Rattle.validation_laws.proofs.Counting.{raised_none}
use Rattle.outside_rule_terms.specs.Asked.{is_place, one_if, AreRaised}

pub none_raised : (o : Option ℕ) (ns : List ℕ) → o ≡ None → AreRaised (λ i. one_if (is_place o i)) ns ns
none_raised o ns e i = rw e (sym (raised_none (get_or ns i 0)))

one_raised : (p : ℕ) (ns : List ℕ) (n : ℕ) → p < length ns → n ≡ raised (get_or ns p 0) 1
    → AreRaised (λ i. one_if (is_place (Some p) i)) ns (set ns p n)
one_raised p ns n l e i = elim (eqb_tells p i) [
  | inl k ↦
      let same : get_or (set ns p n) i 0 ≡ raised (get_or ns i 0) 1 = rw (← k.1) (get_or-set_same ns p n 0 l ∙ e) in
      rw k.0 same
  | inr d ↦
      let other : get_or (set ns p n) i 0 ≡ get_or ns i 0 = get_or-set_other ns p i n 0 (λ k. d.1 (sym k)) in
      rw d.0 (other ∙ sym (raised_none (get_or ns i 0)))
]

-- of objects, of which one is another then
pub object_raised : {A : Type 0} (count : A → ℕ) (xs : List A) (p : ℕ) (old new : A) (o : Option ℕ) → p < length xs → o ≡ Some p
    → old ≡ get_or xs p old → count new ≡ raised (count old) 1
    → AreRaised (λ i. one_if (is_place o i)) (map count xs) (map count (set xs p new))
object_raised count xs p old new o l e here more =
    let within : p < length (map count xs) = omega (arith, length-map xs count, l) in
    let is : count new ≡ raised (get_or (map count xs) p 0) 1 = more ∙ ap (λ n. raised n 1) (ap count here ∙ sym (get_or-map count xs p old 0 l)) in
    rw (e, map-set count xs p new) (one_raised p (map count xs) (count new) within is)

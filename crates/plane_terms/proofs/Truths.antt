-- Tests that hold together, and what is there or is not.
use Rattle.std.proofs.Common.{◌≡◌, ◌⊎◌, inl, inr, Bool, true, false, ◌&&◌, Option, Some, None, refl, sym}

pub both_parts : (a b : Bool) → (a && b) ≡ true → (a ≡ true) × (b ≡ true)
both_parts true true e = (refl, refl)
both_parts true false e = absurd cc
both_parts false b e = absurd cc

pub all_four : (a b c d : Bool) → (a && (b && (c && d))) ≡ true → (a ≡ true) × (b ≡ true) × (c ≡ true) × (d ≡ true)
all_four a b c d e =
    let h = both_parts a (b && (c && d)) e in
    let k = both_parts b (c && d) h.1 in
    let l = both_parts c d k.1 in
    (h.0, k.0, l.0, l.1)

pub same_by_truth : (a b : Bool) → (a ≡ true → b ≡ true) → (b ≡ true → a ≡ true) → a ≡ b
same_by_truth true b m n = sym (m refl)
same_by_truth false true m n = n refl
same_by_truth false false m n = refl

pub there_or_not : {A : Type 0} (o : Option A) → ((x : A) × (o ≡ Some x)) ⊎ (o ≡ None)
there_or_not None = inr refl
there_or_not (Some x) = inl (x, refl)

-- What is left of a cache where room is made for one pair more.
use Rattle.std.proofs.Common.{◌≡◌, ℕ, ◌-◌, ◌≤◌, List, Result, Ok, Err, OnErr, sym, ◌∙◌, ap, take, length, arith}
use Rattle.std.proofs.Math.Seq.{take-length}
use Rattle.std.proofs.lemmas.List.{length-take, length-take-le, take_min}
use Rattle.rule_core.specs.Kept.{KeptCells, LeavesRoom, KeepsMost}
use Rattle.rule_core.specs.declared.region.Region.{Region}
use Rattle.rule_core.proofs.Totals.{front_less}

module _ (r : Region) (more : ℕ) (old : List (ℕ × KeptCells)) where
  -- of a front no more is taken than there is
  no_longer : (n : ℕ) → length (take n old) ≤ length old
  no_longer n = omega (arith, length-take n old)

  pub all_left : {new : List (ℕ × KeptCells)} → new ≡ old → KeepsMost r more old new
  all_left e = rw e record { recent = sym (take-length old); most = λ n room. no_longer n }

  -- two fronts of the same length are the same
  same_front : (n : ℕ) (es : List (ℕ × KeptCells)) → es ≡ take (length es) old → length (take n old) ≡ length es → take n old ≡ es
  same_front n es e l = sym (take_min n old) ∙ (ap (λ k. take k old) (sym (length-take n old) ∙ l) ∙ sym e)

  -- where there is no room, the last can go
  pub last_goes : (es : List (ℕ × KeptCells)) → KeepsMost r more old es → (LeavesRoom r more es → ⊥)
      → KeepsMost r more old (take (length es - 1) es)
  last_goes es k none = record {
    recent = front_less es old k.recent;
    most = λ n room.
        let shorter : length (take n old) ≡ length es → ⊥ = λ l. none (rw (same_front n es k.recent l) at room) in
        rw (length-take-le (length es - 1) es (omega arith)) (omega (arith, k.most n room, shorter));
  }

  -- where memory runs out, as many are left
  pub left_of : {A E : Type 0} (x : Result A E) {new : List (ℕ × KeptCells)} → KeepsMost r more old new → OnErr x (KeepsMost r more old new)
  left_of (Ok a) k = tt
  left_of (Err e) k = k

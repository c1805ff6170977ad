-- The swap of a step.
use Rattle.std.proofs.Common.{ℕ, suc, ◌<◌, ◌≡◌, List, Option, Result, Ok, Err, sym, subst, arith, take, drop, get_or, length, ◌∷◌, ◌++◌}
use Rattle.std.specs.Prelude.{slice_set, OnOk}
use Rattle.std.proofs.lemmas.List.{set_split, length-take}
use Rattle.std.proofs.Math.Seq.{split_at}
use Rattle.topology_terms.specs.Feature.{Feature}
use Rattle.session_terms.specs.Kept.{KeptStep}
use Rattle.edit_session.specs.StepLists.{IsSwappedAt}

pub swapped_at : {G E : Type 0} (swapped : ℕ → Option Feature → Option Feature → G → G → Type 0) (ts : List KeptStep) (i h : ℕ)
    (kept stood : Option Feature) (g k : G) (o : Result (Unit {0}) E) → i < length ts
    → record { handle = h; kept = kept } ≡ get_or ts i (record { handle = h; kept = kept }) → OnOk o (swapped h stood kept g k)
    → OnOk o (IsSwappedAt swapped i ts (slice_set ts i (record { handle = h; kept = stood })) g k)
swapped_at swapped ts i h kept stood g k (Ok u) within at swap = record {
  before = take i ts;
  step = record { handle = h; kept = kept };
  after = drop (suc i) ts;
  stood = stood;
  index = let l = length-take i ts in omega arith;
  old = subst (λ (x : KeptStep). ts ≡ take i ts ++ x ∷ drop (suc i) ts) (sym at) (split_at ts i (record { handle = h; kept = kept }) within);
  new = set_split ts i (record { handle = h; kept = stood }) within;
  swap = swap;
}
swapped_at swapped ts i h kept stood g k (Err e) within at swap = tt
